-- A definition of a type is refused exactly for its first flaw.
use Rattle.std.proofs.Common.{◌≡◌, ℕ, Bool, true, false, cond, not, List, [], ◌∷◌, ◌++◌, length, Option, Some, None, Result, Ok, Err, inl, inr, refl, sym, ap, ◌∙◌}
use Rattle.std.specs.Prelude.{nat_le, is_some}
use Rattle.std.specs.List.{list_any}
use Rattle.std.specs.Option.{option_map}
use Rattle.std.proofs.lemmas.Bool.{or_cases, or_left, or_right, leb-true, le-leb}
use Rattle.definitions.specs.declared.type_definition.TypeDefinition.{TypeDefinition}
use Rattle.definitions.specs.TypeDefinitions.{type_definition_of}
use Rattle.definitions.specs.TypeGrammar.{SpellsType}
use Rattle.values.specs.declared.types.AttributeType.{AttributeType}
use Rattle.values.specs.Types.{type_of}
use Rattle.dir_conf.specs.declared.conf_fault.ConfFaultKind.{ConfFaultKind}
use Rattle.dir_conf.specs.declared.conf_fault.ConfFaultKind.TheVariants.{Keyword, Form, Twice, UnknownName, Subtype, RuleSyntax, Suffix, Index, Collective, TooManyTypes}
use Rattle.schema.specs.TypeRules.{has_twin, up_of, breaks_with, needs_another_syntax}
use Rattle.dir_conf.specs.Configurations as conf
use Rattle.dir_conf.specs.Configurations.{At, is_built_in, is_type, names_one, is_taken, superior_of, unless, placed}
use Rattle.schema.specs.FirstFlaws.{Not}
use Rattle.dir_conf.specs.FaultyLines.{type_below, HasTypeFlaw, type_order, IsTypeFault}
use Rattle.dir_conf.proofs.Taken.{type_is_there}
use Rattle.schema.proofs.FirstFlaws.{first_of, Tells, is_first_flaw, first_is}
use Rattle.dir_conf.proofs.FirstStops.{same_err}
use Rattle.dir_conf.proofs.FlawsTold.{failed_at, Told, told_is}

-- ---- tests for each flaw

abbrev pub has_none_above : Option (Option ℕ) → Bool
has_none_above up = not (is_some up)

abbrev pub leaves : List AttributeType → TypeDefinition → Option (Option ℕ) → Bool
leaves types d None = false
leaves types d (Some up) = breaks_with (type_below types d up) (up_of types up)

abbrev pub wants_syntax : List AttributeType → TypeDefinition → Option (Option ℕ) → Bool
wants_syntax types d None = false
wants_syntax types d (Some up) = needs_another_syntax (type_below types d up)

abbrev pub type_test : List AttributeType → TypeDefinition → ConfFaultKind → Bool
type_test types d TooManyTypes = nat_le 65535 (length types)
type_test types d Twice = is_taken types d.element
type_test types d Collective = d.is_collective
type_test types d UnknownName = has_none_above (superior_of types d.superior)
type_test types d Subtype = leaves types d (superior_of types d.superior)
type_test types d RuleSyntax = wants_syntax types d (superior_of types d.superior)
type_test types d Keyword = false
type_test types d Form = false
type_test types d Suffix = false
type_test types d Index = false

module _ (types : List AttributeType) (d : TypeDefinition) where
  Above : Type 0
  Above = Option (Option ℕ)

  unnamed : (o : Option ℕ) → not (is_some (option_map (λ (t : ℕ). Some t) o)) ≡ true → is_some o ≡ false
  unnamed None e = refl
  unnamed (Some t) e = absurd cc

  unnamed_too : (o : Option ℕ) → is_some o ≡ false → not (is_some (option_map (λ (t : ℕ). Some t) o)) ≡ true
  unnamed_too None e = refl
  unnamed_too (Some t) e = absurd cc

  pub unknown : (superior : Option (List ℕ)) → has_none_above (superior_of types superior) ≡ true → (name : List ℕ) × (superior ≡ Some name) × (is_type types name ≡ false)
  unknown None e = absurd cc
  unknown (Some name) e = (name, refl, sym (type_is_there types name) ∙ unnamed (type_of types name) e)

  unknown_too : (name : List ℕ) → is_type types name ≡ false → has_none_above (superior_of types (Some name)) ≡ true
  unknown_too name e = unnamed_too (type_of types name) (type_is_there types name ∙ e)

  -- what holds below the type above
  below_one : (P : Option ℕ → Bool) (f : Option (Option ℕ) → Bool) → f None ≡ false → ((up : Option ℕ) → f (Some up) ≡ P up) → (o : Option (Option ℕ)) → f o ≡ true → (up : Option ℕ) × (o ≡ Some up) × (P up ≡ true)
  below_one P f none some None e = absurd (let both = sym none ∙ e in cc)
  below_one P f none some (Some up) e = (up, refl, sym (some up) ∙ e)

  tells : Tells (type_test types d) (HasTypeFlaw types d)
  tells TooManyTypes = (λ e. leb-true 65535 (length types) e, λ h. le-leb 65535 (length types) h)
  tells Twice = (
    or_cases (list_any (names_one d.element) types) (has_twin d.element.names),
    λ h. elim h [
      | inl e ↦ or_left (list_any (names_one d.element) types) (has_twin d.element.names) e
      | inr e ↦ or_right (list_any (names_one d.element) types) (has_twin d.element.names) e
    ],
  )
  tells Collective = (λ e. e, λ h. h)
  tells UnknownName = (unknown d.superior, λ h. ap (λ (o : Option (List ℕ)). has_none_above (superior_of types o)) h.1 ∙ unknown_too h.0 h.2)
  tells Subtype = (
    below_one (λ up. breaks_with (type_below types d up) (up_of types up)) (leaves types d) refl (λ up. refl) (superior_of types d.superior),
    λ h. ap (leaves types d) h.1 ∙ h.2,
  )
  tells RuleSyntax = (
    below_one (λ up. needs_another_syntax (type_below types d up)) (wants_syntax types d) refl (λ up. refl) (superior_of types d.superior),
    λ h. ap (wants_syntax types d) h.1 ∙ h.2,
  )
  tells Keyword = (λ e. absurd cc, λ h. absurd h)
  tells Form = (λ e. absurd cc, λ h. absurd h)
  tells Suffix = (λ e. absurd cc, λ h. absurd h)
  tells Index = (λ e. absurd cc, λ h. absurd h)

  -- ---- the definition

  abbrev pub done : Option (Option ℕ) → List AttributeType
  done None = types
  done (Some up) = types ++ type_below types d up ∷ []

  in_turn : (line : ℕ) (a b c : Bool) (o : Option (Option ℕ))
      → unless line (cond a (Some TooManyTypes) (cond b (Some Twice) (cond c (Some Collective) None))) (conf.below types line d o)
      ≡ unless line (cond a (Some TooManyTypes) (cond b (Some Twice) (cond c (Some Collective) (cond (has_none_above o) (Some UnknownName) (cond (leaves types d o) (Some Subtype) (cond (wants_syntax types d o) (Some RuleSyntax) None)))))) (Ok (done o))
  in_turn line true b c o = refl
  in_turn line false true c o = refl
  in_turn line false false true o = refl
  in_turn line false false false None = refl
  in_turn line false false false (Some up) = refl

  pub placed_is : (line : ℕ) → is_built_in d.element.oid ≡ false → placed types line (Some d) ≡ unless line (first_of (type_test types d) type_order) (Ok (done (superior_of types d.superior)))
  unfolding placed
  placed_is line new =
      ap (λ (b : Bool). cond {A = Result (List AttributeType) At} b (Ok types) (unless line (conf.refused types d) (conf.below types line d (superior_of types d.superior)))) new
      ∙ in_turn line (nat_le 65535 (length types)) (is_taken types d.element) d.is_collective (superior_of types d.superior)

-- ---- the text of one

abbrev pub TypesRead : Type 0
TypesRead = ((text : List ℕ) (d : TypeDefinition) → type_definition_of text ≡ Some d → SpellsType text d) × ((text : List ℕ) (d : TypeDefinition) → SpellsType text d → type_definition_of text ≡ Some d)

flaw_told : (line : ℕ) (o : Option ConfFaultKind) (out : List AttributeType) → Told line o (unless line o (Ok out))
flaw_told line None out = inl (refl, (out, refl))
flaw_told line (Some kind) out = inr (kind, refl, refl)

module _ (read : TypesRead) (types : List AttributeType) (line : ℕ) (text : List ℕ) where
  pub type_faulty : (at : ℕ) (kind : ConfFaultKind) → placed types line (type_definition_of text) ≡ Err (at, kind) → (at ≡ line) × IsTypeFault types text kind
  unfolding placed
  type_faulty at kind e = by (type_definition_of text) refl e
    where
      new_one : (d : TypeDefinition) → type_definition_of text ≡ Some d → (b : Bool) → is_built_in d.element.oid ≡ b → placed types line (Some d) ≡ Err (at, kind) → (at ≡ line) × IsTypeFault types text kind
      new_one d is true built said = absurd (let passed = sym (ap (λ (b : Bool). cond {A = Result (List AttributeType) At} b (Ok types) (unless line (conf.refused types d) (conf.below types line d (superior_of types d.superior)))) built) ∙ said in cc)
      new_one d is false built said =
          let flaw = first_of (type_test types d) type_order in
          let out = done types d (superior_of types d.superior) in
          let told = told_is line flaw (unless line flaw (Ok out)) at kind (flaw_told line flaw out) (sym (placed_is types d line built) ∙ said) in
          (told.0, inr (d, read.0 text d is, built, is_first_flaw (type_test types d) (HasTypeFlaw types d) (tells types d) type_order kind told.1))

      none_spelled : type_definition_of text ≡ None → (d : TypeDefinition) → Not (SpellsType text d)
      none_spelled is d spelled = absurd (let both = sym is ∙ read.1 text d spelled in cc)

      no_form : placed types line None ≡ Err (at, kind) → (at ≡ line) × (kind ≡ Form)
      no_form said = let same = same_err {A = List AttributeType} (line, Form) (at, kind) said in (sym (ap (λ (p : At). p.0) same), sym (ap (λ (p : At). p.1) same))

      by : (o : Option TypeDefinition) → type_definition_of text ≡ o → placed types line o ≡ Err (at, kind) → (at ≡ line) × IsTypeFault types text kind
      by None is said = let told = no_form said in (told.0, inl (told.1, none_spelled is))
      by (Some d) is said = new_one d is (is_built_in d.element.oid) refl said

  pub type_fails : (kind : ConfFaultKind) → IsTypeFault types text kind → placed types line (type_definition_of text) ≡ Err (line, kind)
  unfolding placed
  type_fails kind (inl (is, none)) = by (type_definition_of text) refl ∙ ap (failed_at {A = List AttributeType} line) (sym is)
    where
      by : (o : Option TypeDefinition) → type_definition_of text ≡ o → placed types line o ≡ Err (line, Form)
      by None is = refl
      by (Some d) is = absurd (none d (read.0 text d is))
  type_fails kind (inr (d, spelled, built, flaw)) =
      ap (placed types line) (read.1 text d spelled)
      ∙ placed_is types d line built
      ∙ ap (λ (o : Option ConfFaultKind). unless line o (Ok (done types d (superior_of types d.superior)))) (first_is (type_test types d) (HasTypeFlaw types d) (tells types d) type_order kind flaw)
