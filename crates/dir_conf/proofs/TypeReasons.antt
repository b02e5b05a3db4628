-- The flaw that a definition of a type is told to have: which kind of fault it is, and that what it names makes it so.
use Rattle.std.proofs.Common.{◌≡◌, ℕ, Bool, true, false, cond, not, ◌&&◌, ◌||◌, List, [], ◌∷◌, length, Option, Some, None, inl, inr, refl, sym, ap, subst, ◌∙◌}
use Rattle.std.specs.Prelude.{nat_le, is_some, unwrap_or}
use Rattle.std.specs.List.{list_any, find}
use Rattle.std.specs.Option.{option_map}
use Rattle.std.proofs.lemmas.Bool.{and_parts, not-true}
use Rattle.definitions.specs.declared.element.Element.{Element}
use Rattle.definitions.specs.declared.type_definition.TypeDefinition.{TypeDefinition}
use Rattle.values.specs.declared.types.AttributeType.{AttributeType}
use Rattle.schema.specs.TypeRules.{has_twin, up_of, breaks_with, needs_another_syntax, is_equality, is_syntax}
use Rattle.schema.proofs.FirstFlaws.{first_of}
use Rattle.dir_conf.specs.declared.conf_fault.ConfFaultKind.{ConfFaultKind}
use Rattle.dir_conf.specs.declared.conf_fault.ConfFaultKind.TheVariants as kinds
use Rattle.dir_conf.specs.declared.reason.ConfFlaw.{ConfFlaw}
use Rattle.dir_conf.specs.declared.reason.ConfFlaw.TheVariants as flaws
use Rattle.dir_conf.specs.declared.reason.SyntaxRule.{SyntaxRule}
use Rattle.dir_conf.specs.declared.reason.SyntaxRule.TheVariants as syntax_rules
use Rattle.dir_conf.specs.Configurations.{is_type, is_taken, superior_of}
use Rattle.dir_conf.specs.FaultyLines.{type_below, type_order}
use Rattle.dir_conf.specs.Flaws.{kind_of, name_of, IsTaken, NeedsSyntax, rule_of, syntax_of, IsTypeFlaw}
use Rattle.dir_conf.specs.inner.FoundFlaws.{twin, found_or, taken_word, flaw_or, twice, rule_at_fault, mismatch, below_flaw, type_flaw}
use Rattle.dir_conf.proofs.Found.{found_passes, found_any, is_twin, twin_any, some_or}
use Rattle.dir_conf.proofs.Taken.{types_share}
use Rattle.dir_conf.proofs.TypeFlaws.{type_test, has_none_above, leaves, wants_syntax, unknown}

abbrev Word : Type 0
Word = List ℕ

pub same_flaw : (a b : ConfFlaw) → ◌≡◌ {A = Option ConfFlaw} (Some a) (Some b) → a ≡ b
same_flaw a b e = cc

-- ---- a word that is taken

same_word : (a b : Word) → ◌≡◌ {A = Option Word} (Some a) (Some b) → a ≡ b
same_word a b e = cc

pub word_is_taken : (is_there : Word → Bool) (e : Element) (w : Word) → taken_word is_there e ≡ Some w → IsTaken is_there e w
word_is_taken is_there e w said = by (find is_there (e.oid ∷ e.names)) refl said
  where
    by : (o : Option Word) → find is_there (e.oid ∷ e.names) ≡ o → found_or o (twin e.names) ≡ Some w → IsTaken is_there e w
    by None none said = inr (is_twin e.names w said)
    by (Some v) found said = let h = found_passes is_there (e.oid ∷ e.names) w (found ∙ said) in inl (h.among, h.passes)

-- a word is found where one of them is there, or stands twice
pub some_taken : (is_there : Word → Bool) (e : Element) → is_some (taken_word is_there e) ≡ (list_any is_there (e.oid ∷ e.names) || has_twin e.names)
some_taken is_there e = some_or (find is_there (e.oid ∷ e.names)) (twin e.names) ∙ (λ j. found_any is_there (e.oid ∷ e.names) j || twin_any e.names j)

-- ---- which kind it is

-- ---- the rule that needs another syntax

abbrev wants : SyntaxRule → AttributeType → Bool
wants rule t = is_equality (rule_of rule) t.equality && not (is_syntax (syntax_of rule) t.syntax)

abbrev Wants : AttributeType → SyntaxRule → Type 0
Wants t rule = (is_equality (rule_of rule) t.equality ≡ true) × (is_syntax (syntax_of rule) t.syntax ≡ false)

wants_it : (t : AttributeType) (rule : SyntaxRule) → wants rule t ≡ true → Wants t rule
wants_it t rule h =
    let both = and_parts (is_equality (rule_of rule) t.equality) (not (is_syntax (syntax_of rule) t.syntax)) h in
    (both.0, not-true (is_syntax (syntax_of rule) t.syntax) both.1)

abbrev which : Bool → SyntaxRule
which b = cond b syntax_rules.Integer syntax_rules.Name

rule_needs : (t : AttributeType) → needs_another_syntax t ≡ true → Wants t (rule_at_fault t)
rule_needs t e = by (wants syntax_rules.Integer t) refl
  where
    by : (b : Bool) → wants syntax_rules.Integer t ≡ b → Wants t (rule_at_fault t)
    by true h = subst (Wants t) (sym (ap which h)) (wants_it t syntax_rules.Integer h)
    by false h = subst (Wants t) (sym (ap which h)) (wants_it t syntax_rules.Name (ap (λ (b : Bool). b || wants syntax_rules.Name t) (sym h) ∙ e))

abbrev some_word : Word → Option Word
some_word w = Some w

module _ (types : List AttributeType) (d : TypeDefinition) where
  abbrev of : Word
  of = name_of d.element

  -- by what is tested
  abbrev flaw_by : Bool → Option Word → Bool → Option (Option ℕ) → Option ConfFlaw
  flaw_by many word collective up =
      cond many (Some (flaws.TooManyTypes of)) (flaw_or (twice of word) (cond collective (Some (flaws.Collective of)) (below_flaw types d up)))

  flaw_is : type_flaw types d ≡ flaw_by (nat_le 65535 (length types)) (taken_word (is_type types) d.element) d.is_collective (superior_of types d.superior)
  unfolding type_flaw
  flaw_is = refl

  abbrev kind_by : Bool → Bool → Bool → Option (Option ℕ) → Option ConfFaultKind
  kind_by many taken collective up =
      cond many (Some kinds.TooManyTypes) (cond taken (Some kinds.Twice) (cond collective (Some kinds.Collective)
      (cond (has_none_above up) (Some kinds.UnknownName) (cond (leaves types d up) (Some kinds.Subtype) (cond (wants_syntax types d up) (Some kinds.RuleSyntax) None)))))

  same_kind : (many : Bool) (word : Option Word) (collective : Bool) (up : Option (Option ℕ)) → option_map kind_of (flaw_by many word collective up) ≡ kind_by many (is_some word) collective up
  same_kind true word collective up = refl
  same_kind false (Some w) collective up = refl
  same_kind false None true up = refl
  same_kind false None false None = refl
  same_kind false None false (Some up) = by (leaves types d (Some up)) (wants_syntax types d (Some up))
    where
      by : (b n : Bool) → option_map kind_of (cond b (Some (flaws.Subtype of (unwrap_or d.superior []))) (cond n (Some (flaws.RuleSyntax of (rule_at_fault (type_below types d up)) d.equality d.syntax)) None))
          ≡ cond b (Some kinds.Subtype) (cond n (Some kinds.RuleSyntax) None)
      by true n = refl
      by false true = refl
      by false false = refl

  is_taken_there : is_some (taken_word (is_type types) d.element) ≡ is_taken types d.element
  is_taken_there = some_taken (is_type types) d.element ∙ ap (λ (b : Bool). b || has_twin d.element.names) (sym (types_share types d.element))

  pub type_kind : option_map kind_of (type_flaw types d) ≡ first_of (type_test types d) type_order
  type_kind =
      ap (λ (o : Option ConfFlaw). option_map kind_of o) flaw_is
      ∙ same_kind (nat_le 65535 (length types)) (taken_word (is_type types) d.element) d.is_collective (superior_of types d.superior)
      ∙ ap (λ (b : Bool). kind_by (nat_le 65535 (length types)) b d.is_collective (superior_of types d.superior)) is_taken_there

  -- ---- what it names

  -- the word behind SUP, where no type above has that name, or a type is above
  no_type : superior_of types d.superior ≡ None → (name : Word) × (d.superior ≡ Some name) × (is_type types name ≡ false)
  no_type e = unknown types d d.superior (ap has_none_above e)

  same_number : (a b : Option ℕ) → ◌≡◌ {A = Option (Option ℕ)} (Some a) (Some b) → a ≡ b
  same_number a b e = cc

  no_up : (up : Option ℕ) → up ≡ None → (t : AttributeType) → breaks_with t (up_of types up) ≡ false
  no_up up e t = ap (λ (o : Option ℕ). breaks_with t (up_of types o)) e

  stated : (up : Option ℕ) (t : AttributeType) (superior : Option Word) → superior_of types superior ≡ Some up → breaks_with t (up_of types up) ≡ true → superior ≡ Some (unwrap_or superior [])
  stated up t (Some name) is e = refl
  stated up t None is e = absurd (let none = no_up up (sym (same_number None up is)) t in let both = sym none ∙ e in cc)

  needs : (up : Option ℕ) → superior_of types d.superior ≡ Some up → needs_another_syntax (type_below types d up) ≡ true → NeedsSyntax types d (rule_at_fault (type_below types d up))
  needs up is e = let h = rule_needs (type_below types d up) e in record { up = up; up_is = is; has_rule = h.0; no_syntax = h.1 }

  below_means : (up : Option ℕ) → superior_of types d.superior ≡ Some up → (flaw : ConfFlaw) → mismatch types d up ≡ Some flaw → IsTypeFlaw types d flaw
  below_means up is flaw said = by (breaks_with (type_below types d up) (up_of types up)) refl (needs_another_syntax (type_below types d up)) refl said
    where
      by : (b : Bool) → breaks_with (type_below types d up) (up_of types up) ≡ b → (n : Bool) → needs_another_syntax (type_below types d up) ≡ n
          → cond b (Some (flaws.Subtype of (unwrap_or d.superior []))) (cond n (Some (flaws.RuleSyntax of (rule_at_fault (type_below types d up)) d.equality d.syntax)) None) ≡ Some flaw → IsTypeFlaw types d flaw
      by true breaks n en said = subst (IsTypeFlaw types d) (same_flaw _ flaw said) (refl, stated up (type_below types d up) d.superior is breaks)
      by false eb true wants said = subst (IsTypeFlaw types d) (same_flaw _ flaw said) (refl, refl, refl, needs up is wants)
      by false eb false en said = absurd cc

  pub type_means : (flaw : ConfFlaw) → type_flaw types d ≡ Some flaw → IsTypeFlaw types d flaw
  type_means flaw e = by (nat_le 65535 (length types)) (taken_word (is_type types) d.element) refl d.is_collective (superior_of types d.superior) refl (sym flaw_is ∙ e)
    where
      by : (many : Bool) (word : Option Word) → taken_word (is_type types) d.element ≡ word → (collective : Bool) (up : Option (Option ℕ)) → superior_of types d.superior ≡ up → flaw_by many word collective up ≡ Some flaw
          → IsTypeFlaw types d flaw
      by true word taken collective up is said = subst (IsTypeFlaw types d) (same_flaw _ flaw said) refl
      by false (Some w) taken collective up is said = subst (IsTypeFlaw types d) (same_flaw _ flaw said) (refl, word_is_taken (is_type types) d.element w taken)
      by false None taken true up is said = subst (IsTypeFlaw types d) (same_flaw _ flaw said) refl
      by false None taken false None is said =
          let h = no_type is in
          subst (IsTypeFlaw types d) (same_flaw _ flaw said) (refl, refl, h.1 ∙ ap (λ (o : Option Word). some_word (unwrap_or o [])) (sym h.1), ap (λ (o : Option Word). is_type types (unwrap_or o [])) h.1 ∙ h.2)
      by false None taken false (Some up) is said = below_means up is flaw said
