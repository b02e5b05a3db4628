-- The flaw that a definition of a class is told to have: which kind of fault it is, and that what it names makes it so.
use Rattle.std.proofs.Common.{◌≡◌, ℕ, Bool, cond, ◌||◌, List, Option, Some, None, refl, sym, ap, subst, ◌∙◌}
use Rattle.std.specs.Prelude.{is_some}
use Rattle.std.specs.Option.{option_map}
use Rattle.definitions.specs.declared.class_definition.ClassDefinition.{ClassDefinition}
use Rattle.schema.specs.Classes.{is_class}
use Rattle.schema.specs.TypeRules.{has_twin}
use Rattle.schema.proofs.FirstFlaws.{first_of}
use Rattle.dir_conf.specs.declared.conf_fault.ConfFaultKind.{ConfFaultKind}
use Rattle.dir_conf.specs.declared.conf_fault.ConfFaultKind.TheVariants as kinds
use Rattle.dir_conf.specs.declared.reason.ConfFlaw.{ConfFlaw}
use Rattle.dir_conf.specs.declared.reason.NameField.TheVariants as fields
use Rattle.dir_conf.specs.Configurations.{Defined, is_type, is_class_taken}
use Rattle.dir_conf.specs.FaultyLines.{class_order}
use Rattle.dir_conf.specs.Flaws.{kind_of, name_of, IsClassFlaw}
use Rattle.dir_conf.specs.inner.FoundFlaws.{taken_word, flaw_or, twice, unknown, missing, class_flaw}
use Rattle.dir_conf.proofs.Found.{missing_all, is_missing}
use Rattle.dir_conf.proofs.Taken.{classes_share}
use Rattle.dir_conf.proofs.TypeReasons.{same_flaw, word_is_taken, some_taken}
use Rattle.dir_conf.proofs.ClassFlaws.{class_test}

abbrev Word : Type 0
Word = List ℕ

module _ (s : Defined) (d : ClassDefinition) where
  abbrev of : Word
  of = name_of d.element

  -- by what is found
  abbrev flaw_by : Option Word → Option Word → Option Word → Option Word → Option ConfFlaw
  flaw_by word superior must may = flaw_or (twice of word) (flaw_or (unknown of fields.Superior superior) (flaw_or (unknown of fields.Must must) (unknown of fields.May may)))

  abbrev found : Option ConfFlaw
  found = flaw_by (taken_word (is_class s.classes) d.element) (missing (is_class s.classes) d.superiors) (missing (is_type s.types) d.must) (missing (is_type s.types) d.may)

  flaw_is : class_flaw s d ≡ found
  unfolding class_flaw
  flaw_is = refl

  abbrev kind_by : Bool → Bool → Bool → Bool → Option ConfFaultKind
  kind_by taken superior must may = cond taken (Some kinds.Twice) (cond (superior || (must || may)) (Some kinds.UnknownName) None)

  same_kind : (word superior must may : Option Word) → option_map kind_of (flaw_by word superior must may) ≡ kind_by (is_some word) (is_some superior) (is_some must) (is_some may)
  same_kind (Some w) superior must may = refl
  same_kind None (Some w) must may = refl
  same_kind None None (Some w) may = refl
  same_kind None None None (Some w) = refl
  same_kind None None None None = refl

  is_taken_there : is_some (taken_word (is_class s.classes) d.element) ≡ is_class_taken s.classes d.element
  is_taken_there = some_taken (is_class s.classes) d.element ∙ ap (λ (b : Bool). b || has_twin d.element.names) (sym (classes_share s.classes d.element))

  pub class_kind : option_map kind_of (class_flaw s d) ≡ first_of (class_test s d) class_order
  class_kind =
      ap (λ (o : Option ConfFlaw). option_map kind_of o) flaw_is
      ∙ same_kind (taken_word (is_class s.classes) d.element) (missing (is_class s.classes) d.superiors) (missing (is_type s.types) d.must) (missing (is_type s.types) d.may)
      ∙ (λ j. kind_by (is_taken_there j) (missing_all (is_class s.classes) d.superiors j) (missing_all (is_type s.types) d.must j) (missing_all (is_type s.types) d.may j))

  pub class_means : (flaw : ConfFlaw) → class_flaw s d ≡ Some flaw → IsClassFlaw s d flaw
  class_means flaw e =
      by (taken_word (is_class s.classes) d.element) refl (missing (is_class s.classes) d.superiors) refl (missing (is_type s.types) d.must) refl (missing (is_type s.types) d.may) refl (sym flaw_is ∙ e)
    where
      by : (word : Option Word) → taken_word (is_class s.classes) d.element ≡ word → (superior : Option Word) → missing (is_class s.classes) d.superiors ≡ superior → (must : Option Word) → missing (is_type s.types) d.must ≡ must
          → (may : Option Word) → missing (is_type s.types) d.may ≡ may → flaw_by word superior must may ≡ Some flaw → IsClassFlaw s d flaw
      by (Some w) is superior es must em may ey said = subst (IsClassFlaw s d) (same_flaw _ flaw said) (refl, word_is_taken (is_class s.classes) d.element w is)
      by None none (Some w) is must em may ey said = subst (IsClassFlaw s d) (same_flaw _ flaw said) (refl, is_missing (is_class s.classes) d.superiors w is)
      by None none None es (Some w) is may ey said = subst (IsClassFlaw s d) (same_flaw _ flaw said) (refl, is_missing (is_type s.types) d.must w is)
      by None none None es None em (Some w) is said = subst (IsClassFlaw s d) (same_flaw _ flaw said) (refl, is_missing (is_type s.types) d.may w is)
      by None none None es None em None ey said = absurd cc
