-- The flaw that an index line is told to have: which kind of fault it is, and that what it names makes it so.
use Rattle.std.proofs.Common.{◌≡◌, ℕ, Bool, true, false, cond, ◌&&◌, ◌||◌, List, Option, Some, None, refl, sym, ap, subst, ◌∙◌}
use Rattle.std.specs.Prelude.{is_some}
use Rattle.std.specs.List.{list_any, find}
use Rattle.std.specs.Option.{option_map}
use Rattle.values.specs.declared.types.AttributeType.{AttributeType}
use Rattle.values.specs.Types.{type_of}
use Rattle.schema.specs.declared.slots.IndexKind.{IndexKind}
use Rattle.schema.specs.declared.slots.IndexKind.TheVariants.{Equality, Presence, Substrings}
use Rattle.schema.proofs.FirstFlaws.{first_of}
use Rattle.dir_conf.specs.declared.conf_fault.ConfFaultKind.{ConfFaultKind}
use Rattle.dir_conf.specs.declared.conf_fault.ConfFaultKind.TheVariants as kinds
use Rattle.dir_conf.specs.declared.reason.ConfFlaw.{ConfFlaw}
use Rattle.dir_conf.specs.declared.reason.ConfFlaw.TheVariants as flaws
use Rattle.dir_conf.specs.Configurations.{is_type}
use Rattle.dir_conf.specs.IndexLines.{every_kind, words}
use Rattle.dir_conf.specs.FaultyLines.{AreListed, is_kind_word, is_some_kind, lacks, index_order}
use Rattle.dir_conf.specs.Flaws.{kind_of, IsIndexFlaw}
use Rattle.dir_conf.specs.inner.FoundFlaws.{Lists, flaw_or, missing, listed, lacking, unkept_flaw, listed_flaw, lists_flaw, index_flaw}
use Rattle.dir_conf.proofs.Found.{found_passes, found_any, missing_all, is_missing}
use Rattle.dir_conf.proofs.TypeReasons.{same_flaw}
use Rattle.dir_conf.proofs.Unkept.{unkept}
use Rattle.dir_conf.proofs.IndexFlaws as index
use Rattle.dir_conf.proofs.IndexFlaws.{index_test, lists_are}

abbrev Word : Type 0
Word = List ℕ

module _ (types : List AttributeType) where
  abbrev lacks_it : IndexKind → Word → Bool
  lacks_it k name = lacks types k (type_of types name)

  abbrev no_rule : IndexKind → Word → ConfFlaw
  no_rule k w = flaws.NoRule w k

  abbrev lacking_by : IndexKind → Bool → Option Word → Option ConfFlaw
  lacking_by k b o = cond b (option_map (no_rule k) o) None

  -- ---- which kind it is

  one_kind : (k : IndexKind) (b : Bool) (o : Option Word) → option_map kind_of (lacking_by k b o) ≡ cond (b && is_some o) (Some kinds.Index) None
  one_kind k true (Some w) = refl
  one_kind k true None = refl
  one_kind k false o = refl

  lacking_kind : (lists : Lists) (k : IndexKind) → option_map kind_of (lacking types lists.0 lists.1 k) ≡ cond (unkept types lists.0 lists.1 k) (Some kinds.Index) None
  lacking_kind lists k =
      one_kind k (list_any (is_kind_word k) lists.1) (find (lacks_it k) lists.0)
      ∙ ap (λ (b : Bool). cond {A = Option ConfFaultKind} (list_any (is_kind_word k) lists.1 && b) (Some kinds.Index) None) (found_any (lacks_it k) lists.0)

  either_kind : (a b : Option ConfFlaw) (p q : Bool) → option_map kind_of a ≡ cond p (Some kinds.Index) None → option_map kind_of b ≡ cond q (Some kinds.Index) None
      → option_map kind_of (flaw_or a b) ≡ cond (p || q) (Some kinds.Index) None
  either_kind (Some f) b true q ea eb = ea
  either_kind (Some f) b false q ea eb = absurd cc
  either_kind None b true q ea eb = absurd cc
  either_kind None b false q ea eb = eb

  or_false : (b : Bool) → b ≡ (b || false)
  or_false true = refl
  or_false false = refl

  unkept_kind : (lists : Lists) → option_map kind_of (unkept_flaw types lists) ≡ cond (list_any (unkept types lists.0 lists.1) every_kind) (Some kinds.Index) None
  unkept_kind lists =
      either_kind (lacking types lists.0 lists.1 Equality) _ (unkept types lists.0 lists.1 Equality) (unkept types lists.0 lists.1 Presence || (unkept types lists.0 lists.1 Substrings || false)) (lacking_kind lists Equality)
      (either_kind (lacking types lists.0 lists.1 Presence) (lacking types lists.0 lists.1 Substrings) (unkept types lists.0 lists.1 Presence) (unkept types lists.0 lists.1 Substrings || false) (lacking_kind lists Presence)
      (lacking_kind lists Substrings ∙ ap (λ (b : Bool). cond {A = Option ConfFaultKind} b (Some kinds.Index) None) (or_false (unkept types lists.0 lists.1 Substrings))))

  abbrev unknown_by : Option Word → Option ConfFlaw
  unknown_by o = option_map (λ w. flaws.UnknownIndexed w) o

  abbrev no_kind_by : Option Word → Option ConfFlaw
  no_kind_by o = option_map (λ w. flaws.UnknownKind w) o

  in_turn : (name kind : Option Word) (last : Option ConfFlaw) (b : Bool) → option_map kind_of last ≡ cond b (Some kinds.Index) None
      → option_map kind_of (flaw_or (unknown_by name) (flaw_or (no_kind_by kind) last)) ≡ cond (is_some name) (Some kinds.UnknownName) (cond (is_some kind || b) (Some kinds.Index) None)
  in_turn (Some w) kind last b e = refl
  in_turn None (Some w) last b e = refl
  in_turn None None last b e = e

  lists_kind : (o : Option Lists) → option_map kind_of (lists_flaw types o) ≡ first_of (index_test types o) index_order
  lists_kind None = refl
  lists_kind (Some lists) =
      in_turn (missing (is_type types) lists.0) (missing is_some_kind lists.1) (unkept_flaw types lists) (list_any (unkept types lists.0 lists.1) every_kind) (unkept_kind lists)
      ∙ (λ j. cond {A = Option ConfFaultKind} (missing_all (is_type types) lists.0 j) (Some kinds.UnknownName) (cond (missing_all is_some_kind lists.1 j || list_any (unkept types lists.0 lists.1) every_kind) (Some kinds.Index) None))

  -- ---- what it names

  abbrev Means : Word → ConfFlaw → Type 0
  Means text flaw = IsIndexFlaw types text flaw

  one_lacks : (text : Word) (lists : Lists) → AreListed text lists.0 lists.1 → (k : IndexKind) (flaw : ConfFlaw) → lacking types lists.0 lists.1 k ≡ Some flaw → IsIndexFlaw types text flaw
  one_lacks text lists are k flaw e = by (list_any (is_kind_word k) lists.1) refl (find (lacks_it k) lists.0) refl e
    where
      by : (b : Bool) → list_any (is_kind_word k) lists.1 ≡ b → (o : Option Word) → find (lacks_it k) lists.0 ≡ o → lacking_by k b o ≡ Some flaw → IsIndexFlaw types text flaw
      by true h (Some w) is said =
          let found = found_passes (lacks_it k) lists.0 w is in
          subst (Means text) (same_flaw _ flaw said) (record { names = lists.0; kinds = lists.1; listed = are; is = (h, found.among, found.passes) })
      by true h None is said = absurd cc
      by false h o is said = absurd cc

  unkept_means : (text : Word) (lists : Lists) → AreListed text lists.0 lists.1 → (flaw : ConfFlaw) → unkept_flaw types lists ≡ Some flaw → IsIndexFlaw types text flaw
  unkept_means text lists are flaw e = by (lacking types lists.0 lists.1 Equality) refl (lacking types lists.0 lists.1 Presence) refl e
    where
      by : (a : Option ConfFlaw) → lacking types lists.0 lists.1 Equality ≡ a → (b : Option ConfFlaw) → lacking types lists.0 lists.1 Presence ≡ b → flaw_or a (flaw_or b (lacking types lists.0 lists.1 Substrings)) ≡ Some flaw → IsIndexFlaw types text flaw
      by (Some f) ea b eb said = one_lacks text lists are Equality flaw (ea ∙ said)
      by None ea (Some f) eb said = one_lacks text lists are Presence flaw (eb ∙ said)
      by None ea None eb said = one_lacks text lists are Substrings flaw said

  listed_means : (text : Word) (lists : Lists) → AreListed text lists.0 lists.1 → (flaw : ConfFlaw) → listed_flaw types lists ≡ Some flaw → IsIndexFlaw types text flaw
  listed_means text lists are flaw e = by (missing (is_type types) lists.0) refl (missing is_some_kind lists.1) refl e
    where
      by : (name : Option Word) → missing (is_type types) lists.0 ≡ name → (kind : Option Word) → missing is_some_kind lists.1 ≡ kind → flaw_or (unknown_by name) (flaw_or (no_kind_by kind) (unkept_flaw types lists)) ≡ Some flaw → IsIndexFlaw types text flaw
      by (Some w) is kind ek said = subst (Means text) (same_flaw _ flaw said) (record { names = lists.0; kinds = lists.1; listed = are; is = is_missing (is_type types) lists.0 w is })
      by None en (Some w) is said = subst (Means text) (same_flaw _ flaw said) (record { names = lists.0; kinds = lists.1; listed = are; is = is_missing is_some_kind lists.1 w is })
      by None en None ek said = unkept_means text lists are flaw said

  pub index_means : (text : Word) (flaw : ConfFlaw) → index_flaw types text ≡ Some flaw → IsIndexFlaw types text flaw
  index_means text flaw e = by (listed (words text)) refl e
    where
      by : (o : Option Lists) → listed (words text) ≡ o → lists_flaw types o ≡ Some flaw → IsIndexFlaw types text flaw
      by None none said = subst (Means text) (same_flaw _ flaw said) (λ names kinds are. absurd (let both = sym none ∙ index.are_lists text names kinds are in cc))
      by (Some lists) is said = listed_means text lists (lists_are text (words text) refl lists is) flaw said

  pub index_kind : (text : Word) → option_map kind_of (index_flaw types text) ≡ first_of (index_test types (listed (words text))) index_order
  index_kind text = lists_kind (listed (words text))
