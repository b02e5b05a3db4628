-- A definition of a class is refused exactly for its first flaw.
use Rattle.std.proofs.Common.{◌≡◌, ℕ, Bool, true, false, cond, not, ◌||◌, ◌&&◌, List, [], ◌∷◌, ◌++◌, Option, Some, None, Result, Ok, Err, ◌⊎◌, inl, inr, refl, sym, ap, subst, ◌∙◌}
use Rattle.std.specs.Prelude.{is_some}
use Rattle.std.specs.List.{list_any, list_all}
use Rattle.std.proofs.lemmas.Bool.{or_cases, or_left, or_right}
use Rattle.base.specs.Answers.{◌>>=◌, each}
use Rattle.definitions.specs.declared.class_definition.ClassDefinition.{ClassDefinition}
use Rattle.definitions.specs.ClassDefinitions.{class_definition_of}
use Rattle.definitions.specs.ClassGrammar.{SpellsClass}
use Rattle.values.specs.Types.{type_of}
use Rattle.dir_conf.specs.declared.conf_fault.ConfFaultKind.{ConfFaultKind}
use Rattle.dir_conf.specs.declared.conf_fault.ConfFaultKind.TheVariants.{Keyword, Form, Twice, UnknownName, Subtype, RuleSyntax, Suffix, Index, Collective, TooManyTypes}
use Rattle.schema.specs.declared.object_class.ObjectClass.{ObjectClass}
use Rattle.schema.specs.TypeRules.{has_twin}
use Rattle.schema.specs.Classes.{is_class, class_of}
use Rattle.dir_conf.specs.NamesInLines.{type_named}
use Rattle.dir_conf.specs.Configurations.{At, is_built_in, is_type, Defined, shares_class_name, is_class_taken, class_from, class_with, with_class, class_placed}
use Rattle.schema.specs.FirstFlaws.{Not}
use Rattle.dir_conf.specs.FaultyLines.{HasClassFlaw, class_order, IsClassFault}
use Rattle.dir_conf.proofs.Taken.{type_is_there}
use Rattle.schema.proofs.ClassesFound.{class_is_there}
use Rattle.schema.proofs.FirstFlaws.{first_of, Tells, is_first_flaw, first_is}
use Rattle.dir_conf.proofs.FirstStops.{same_err}
use Rattle.dir_conf.proofs.FlawsTold.{failed_at, Told, told_is, is_told, each_there, one_isnt_there}

pub all_same : {X : Type 0} (p q : X → Bool) → ((x : X) → p x ≡ q x) → (xs : List X) → list_all p xs ≡ list_all q xs
all_same p q same [] = refl
all_same p q same (x ∷ xs) = λ j. same x j && all_same p q same xs j

abbrev fine : {A : Type 0} → A → Result A At
fine x = Ok x

module _ (s : Defined) (d : ClassDefinition) where
  abbrev pub are_classes : List (List ℕ) → Bool
  are_classes = list_all (is_class s.classes)

  abbrev pub are_types : List (List ℕ) → Bool
  are_types = list_all (is_type s.types)

  abbrev pub class_test : ConfFaultKind → Bool
  class_test Twice = is_class_taken s.classes d.element
  class_test UnknownName = not (are_classes d.superiors) || (not (are_types d.must) || not (are_types d.may))
  class_test Keyword = false
  class_test Form = false
  class_test Subtype = false
  class_test RuleSyntax = false
  class_test Suffix = false
  class_test Index = false
  class_test Collective = false
  class_test TooManyTypes = false

  one_unknown : (a b c : Bool) → (not a || (not b || not c)) ≡ true → (a ≡ false) ⊎ ((b ≡ false) ⊎ (c ≡ false))
  one_unknown false b c e = inl refl
  one_unknown true false c e = inr (inl refl)
  one_unknown true true false e = inr (inr refl)
  one_unknown true true true e = absurd cc

  unknown_too : (a b c : Bool) → (a ≡ false) ⊎ ((b ≡ false) ⊎ (c ≡ false)) → (not a || (not b || not c)) ≡ true
  unknown_too false b c h = refl
  unknown_too true false c h = refl
  unknown_too true true false h = refl
  unknown_too true true true (inl e) = absurd cc
  unknown_too true true true (inr (inl e)) = absurd cc
  unknown_too true true true (inr (inr e)) = absurd cc

  tells : Tells class_test (HasClassFlaw s d)
  tells Twice = (
    or_cases (list_any (shares_class_name d.element) s.classes) (has_twin d.element.names),
    λ h. elim h [
      | inl e ↦ or_left (list_any (shares_class_name d.element) s.classes) (has_twin d.element.names) e
      | inr e ↦ or_right (list_any (shares_class_name d.element) s.classes) (has_twin d.element.names) e
    ],
  )
  tells UnknownName = (one_unknown (are_classes d.superiors) (are_types d.must) (are_types d.may), unknown_too (are_classes d.superiors) (are_types d.must) (are_types d.may))
  tells Keyword = (λ e. absurd cc, λ h. absurd h)
  tells Form = (λ e. absurd cc, λ h. absurd h)
  tells Subtype = (λ e. absurd cc, λ h. absurd h)
  tells RuleSyntax = (λ e. absurd cc, λ h. absurd h)
  tells Suffix = (λ e. absurd cc, λ h. absurd h)
  tells Index = (λ e. absurd cc, λ h. absurd h)
  tells Collective = (λ e. absurd cc, λ h. absurd h)
  tells TooManyTypes = (λ e. absurd cc, λ h. absurd h)

  -- ---- the definition

  module _ (line : ℕ) where
    abbrev with_may : List ℕ → List ℕ → Result (List ℕ) At → Result ObjectClass At
    with_may superiors must r = r >>= λ may. fine (class_from d superiors must may)

    abbrev with_must : List ℕ → Result (List ℕ) At → Result ObjectClass At
    with_must superiors r = r >>= λ must. with_may superiors must (each (type_named s.types line) d.may)

    abbrev with_superiors : Result (List ℕ) At → Result ObjectClass At
    with_superiors r = r >>= λ superiors. with_must superiors (each (type_named s.types line) d.must)

    classes_there : (b : Bool) → are_classes d.superiors ≡ b → list_all (λ n. is_some (class_of s.classes n)) d.superiors ≡ b
    classes_there b e = all_same (λ n. is_some (class_of s.classes n)) (is_class s.classes) (class_is_there s.classes) d.superiors ∙ e

    types_there : (names : List (List ℕ)) (b : Bool) → are_types names ≡ b → list_all (λ n. is_some (type_of s.types n)) names ≡ b
    types_there names b e = all_same (λ n. is_some (type_of s.types n)) (is_type s.types) (type_is_there s.types) names ∙ e

    class_told : (a b c : Bool) → are_classes d.superiors ≡ a → are_types d.must ≡ b → are_types d.may ≡ c → Told line (cond (not a || (not b || not c)) (Some UnknownName) None) (class_with s line d >>= with_class s)
    unfolding class_with
    class_told false b c es em ey = inr (UnknownName, refl, ap (λ (r : Result (List ℕ) At). with_superiors r >>= with_class s) (one_isnt_there (class_of s.classes) line d.superiors (classes_there false es)))
    class_told true false c es em ey =
        let superiors = each_there (class_of s.classes) line d.superiors (classes_there true es) in
        inr (
          UnknownName,
          refl,
          ap (λ (r : Result (List ℕ) At). with_superiors r >>= with_class s) superiors.1
              ∙ ap (λ (r : Result (List ℕ) At). with_must superiors.0 r >>= with_class s) (one_isnt_there (type_of s.types) line d.must (types_there d.must false em)),
        )
    class_told true true false es em ey =
        let superiors = each_there (class_of s.classes) line d.superiors (classes_there true es) in
        let must = each_there (type_of s.types) line d.must (types_there d.must true em) in
        inr (
          UnknownName,
          refl,
          ap (λ (r : Result (List ℕ) At). with_superiors r >>= with_class s) superiors.1
              ∙ ap (λ (r : Result (List ℕ) At). with_must superiors.0 r >>= with_class s) must.1
              ∙ ap (λ (r : Result (List ℕ) At). with_may superiors.0 must.0 r >>= with_class s) (one_isnt_there (type_of s.types) line d.may (types_there d.may false ey)),
        )
    class_told true true true es em ey =
        let superiors = each_there (class_of s.classes) line d.superiors (classes_there true es) in
        let must = each_there (type_of s.types) line d.must (types_there d.must true em) in
        let may = each_there (type_of s.types) line d.may (types_there d.may true ey) in
        inl (
          refl,
          (
            record s { classes = s.classes ++ class_from d superiors.0 must.0 may.0 ∷ [] },
            ap (λ (r : Result (List ℕ) At). with_superiors r >>= with_class s) superiors.1
                ∙ ap (λ (r : Result (List ℕ) At). with_must superiors.0 r >>= with_class s) must.1
                ∙ ap (λ (r : Result (List ℕ) At). with_may superiors.0 must.0 r >>= with_class s) may.1,
          ),
        )

    taken_told : (t : Bool) → Told line (cond t (Some Twice) (first_of class_test (UnknownName ∷ []))) (cond {A = Result Defined At} t (Err (line, Twice)) (class_with s line d >>= with_class s))
    taken_told true = inr (Twice, refl, refl)
    taken_told false = class_told (are_classes d.superiors) (are_types d.must) (are_types d.may) refl refl refl

    abbrev when_new : Bool → Result Defined At
    when_new b = cond b (Ok s) (cond {A = Result Defined At} (is_class_taken s.classes d.element) (Err (line, Twice)) (class_with s line d >>= with_class s))

    pub flaw_told : is_built_in d.element.oid ≡ false → Told line (first_of class_test class_order) (class_placed s line (Some d))
    unfolding class_placed
    flaw_told new = subst (λ (b : Bool). Told line (first_of class_test class_order) (when_new b)) (sym new) (taken_told (is_class_taken s.classes d.element))

    pub built_in_passes : is_built_in d.element.oid ≡ true → class_placed s line (Some d) ≡ Ok s
    unfolding class_placed
    built_in_passes built = ap when_new built

-- ---- the text of one

abbrev pub ClassesRead : Type 0
ClassesRead = ((text : List ℕ) (d : ClassDefinition) → class_definition_of text ≡ Some d → SpellsClass text d) × ((text : List ℕ) (d : ClassDefinition) → SpellsClass text d → class_definition_of text ≡ Some d)

module _ (read : ClassesRead) (s : Defined) (line : ℕ) (text : List ℕ) where
  pub class_faulty : (at : ℕ) (kind : ConfFaultKind) → class_placed s line (class_definition_of text) ≡ Err (at, kind) → (at ≡ line) × IsClassFault s text kind
  unfolding class_placed
  class_faulty at kind e = by (class_definition_of text) refl e
    where
      new_one : (d : ClassDefinition) → class_definition_of text ≡ Some d → (b : Bool) → is_built_in d.element.oid ≡ b → class_placed s line (Some d) ≡ Err (at, kind) → (at ≡ line) × IsClassFault s text kind
      new_one d is true built said = absurd (let passed = sym (built_in_passes s d line built) ∙ said in cc)
      new_one d is false built said =
          let told = told_is line (first_of (class_test s d) class_order) (class_placed s line (Some d)) at kind (flaw_told s d line built) said in
          (told.0, inr (d, read.0 text d is, built, is_first_flaw (class_test s d) (HasClassFlaw s d) (tells s d) class_order kind told.1))

      none_spelled : class_definition_of text ≡ None → (d : ClassDefinition) → Not (SpellsClass text d)
      none_spelled is d spelled = absurd (let both = sym is ∙ read.1 text d spelled in cc)

      no_form : class_placed s line None ≡ Err (at, kind) → (at ≡ line) × (kind ≡ Form)
      no_form said = let same = same_err {A = Defined} (line, Form) (at, kind) said in (sym (ap (λ (p : At). p.0) same), sym (ap (λ (p : At). p.1) same))

      by : (o : Option ClassDefinition) → class_definition_of text ≡ o → class_placed s line o ≡ Err (at, kind) → (at ≡ line) × IsClassFault s text kind
      by None is said = let told = no_form said in (told.0, inl (told.1, none_spelled is))
      by (Some d) is said = new_one d is (is_built_in d.element.oid) refl said

  pub class_fails : (kind : ConfFaultKind) → IsClassFault s text kind → class_placed s line (class_definition_of text) ≡ Err (line, kind)
  unfolding class_placed
  class_fails kind (inl (is, none)) = by (class_definition_of text) refl ∙ ap (failed_at {A = Defined} line) (sym is)
    where
      by : (o : Option ClassDefinition) → class_definition_of text ≡ o → class_placed s line o ≡ Err (line, Form)
      by None is = refl
      by (Some d) is = absurd (none d (read.0 text d is))
  class_fails kind (inr (d, spelled, built, flaw)) =
      ap (class_placed s line) (read.1 text d spelled)
      ∙ is_told line (first_of (class_test s d) class_order) (class_placed s line (Some d)) kind (flaw_told s d line built) (first_is (class_test s d) (HasClassFlaw s d) (tells s d) class_order kind flaw)
