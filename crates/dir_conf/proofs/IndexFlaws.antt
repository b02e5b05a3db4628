-- An index line is refused exactly for its first flaw.
use Rattle.std.proofs.Common.{◌≡◌, ℕ, Bool, true, false, cond, not, ◌||◌, ◌&&◌, List, [], ◌∷◌, Option, Some, None, Result, Ok, Err, ◌⊎◌, inl, inr, refl, sym, ap, subst, ◌∙◌}
use Rattle.std.specs.Prelude.{is_some}
use Rattle.std.specs.List.{list_any, list_all, slice_split}
use Rattle.std.proofs.lemmas.Bool.{and_parts, or_parts, or_cases, or_left, or_right, not-true, not_from_false}
use Rattle.base.specs.Answers.{◌>>=◌, each}
use Rattle.values.specs.declared.types.AttributeType.{AttributeType}
use Rattle.values.specs.Types.{type_of}
use Rattle.dir_conf.specs.declared.conf_fault.ConfFaultKind.{ConfFaultKind}
use Rattle.dir_conf.specs.declared.conf_fault.ConfFaultKind.TheVariants.{Keyword, Form, Twice, UnknownName, Subtype, RuleSyntax, Suffix, Index, Collective, TooManyTypes}
use Rattle.schema.specs.declared.slots.IndexKind.{IndexKind}
use Rattle.schema.specs.declared.slots.IndexKind.TheVariants.{Equality, Presence, Substrings}
use Rattle.schema.specs.declared.slots.Slot.{Slot}
use Rattle.dir_conf.specs.ConfFaults.{At}
use Rattle.dir_conf.specs.NamesInLines.{type_named}
use Rattle.dir_conf.specs.IndexLines.{every_kind, is_comma, is_empty, words, two_words, members, kind_named, each_once, slots_with, if_kept, slots_in}
use Rattle.schema.specs.Slots.{can_be_kept}
use Rattle.dir_conf.specs.Configurations.{is_type}
use Rattle.schema.specs.FirstFlaws.{IsFirstFlaw}
use Rattle.dir_conf.specs.FaultyLines.{AreListed, is_kind_word, is_some_kind, lacks, IsUnkept, HasIndexFlaw, index_order}
use Rattle.dir_conf.proofs.Taken.{type_is_there}
use Rattle.schema.proofs.FirstFlaws.{first_of, Tells, is_first_flaw, first_is}
use Rattle.dir_conf.proofs.FlawsTold.{Told, told_is, is_told, each_there, one_isnt_there}
use Rattle.dir_conf.proofs.ClassFlaws.{all_same}
use Rattle.dir_conf.proofs.Unkept.{each_kind, one_is_no_kind, unkept, all_kept}

-- ---- the two lists

abbrev Lists : Type 0
Lists = List (List ℕ) × List (List ℕ)

abbrev unless_gap : Bool → Lists → Option Lists
unless_gap true lists = None
unless_gap false lists = Some lists

abbrev split : List ℕ → List (List ℕ)
split = slice_split is_comma

abbrev gap : List (List ℕ) → Bool
gap parts = list_any is_empty parts

abbrev pub listed : List (List ℕ) → Option Lists
listed [] = None
listed (a ∷ []) = None
listed (a ∷ b ∷ []) = unless_gap (gap (split a) || gap (split b)) (split a, split b)
listed (a ∷ b ∷ c ∷ others) = None

same_lists : (a b : Lists) → ◌≡◌ {A = Option Lists} (Some a) (Some b) → a ≡ b
same_lists a b e = cc

pub lists_are : (text : List ℕ) (ws : List (List ℕ)) → words text ≡ ws → (lists : Lists) → listed ws ≡ Some lists → AreListed text lists.0 lists.1
lists_are text [] is lists e = absurd cc
lists_are text (a ∷ []) is lists e = absurd cc
lists_are text (a ∷ b ∷ c ∷ others) is lists e = absurd cc
lists_are text (a ∷ b ∷ []) is lists e = by (gap (split a) || gap (split b)) refl e
  where
    by : (g : Bool) → (gap (split a) || gap (split b)) ≡ g → unless_gap g (split a, split b) ≡ Some lists → AreListed text lists.0 lists.1
    by true none said = absurd cc
    by false none said =
        let both = or_parts (gap (split a)) (gap (split b)) none in
        subst (λ (l : Lists). AreListed text l.0 l.1) (same_lists (split a, split b) lists said)
        (record { first = a; second = b; words_are = is; names_are = refl; kinds_are = refl; names_some = both.0; kinds_some = both.1 })

pub are_lists : (text : List ℕ) (names kinds : List (List ℕ)) → AreListed text names kinds → listed (words text) ≡ Some (names, kinds)
are_lists text names kinds h =
    ap listed h.words_are
    ∙ (λ j. unless_gap (gap (h.names_are j) || gap (h.kinds_are j)) (h.names_are j, h.kinds_are j))
    ∙ (λ j. unless_gap (h.names_some j || h.kinds_some j) (names, kinds))

-- ---- tests for each flaw

module _ (types : List AttributeType) where
  abbrev unknown_in : Option Lists → Bool
  unknown_in None = false
  unknown_in (Some lists) = not (list_all (is_type types) lists.0)

  abbrev unkept_in : Option Lists → Bool
  unkept_in None = false
  unkept_in (Some lists) = not (list_all is_some_kind lists.1) || list_any (unkept types lists.0 lists.1) every_kind

  abbrev pub index_test : Option Lists → ConfFaultKind → Bool
  index_test lists Form = not (is_some lists)
  index_test lists UnknownName = unknown_in lists
  index_test lists Index = unkept_in lists
  index_test lists Keyword = false
  index_test lists Twice = false
  index_test lists Subtype = false
  index_test lists RuleSyntax = false
  index_test lists Suffix = false
  index_test lists Collective = false
  index_test lists TooManyTypes = false

  abbrev Unkept : Lists → IndexKind → Type 0
  Unkept lists k = (list_any (is_kind_word k) lists.1 ≡ true) × (list_any (λ name. lacks types k (type_of types name)) lists.0 ≡ true)

  unkept_by : (lists : Lists) (a b c : Bool) → unkept types lists.0 lists.1 Equality ≡ a → unkept types lists.0 lists.1 Presence ≡ b → unkept types lists.0 lists.1 Substrings ≡ c → (a || (b || (c || false))) ≡ true → IsUnkept types lists.0 lists.1
  unkept_by lists true b c ea eb ec e = let k = and_parts _ _ ea in (Equality, k.0, k.1)
  unkept_by lists false true c ea eb ec e = let k = and_parts _ _ eb in (Presence, k.0, k.1)
  unkept_by lists false false true ea eb ec e = let k = and_parts _ _ ec in (Substrings, k.0, k.1)
  unkept_by lists false false false ea eb ec e = absurd cc

  is_unkept : (lists : Lists) → list_any (unkept types lists.0 lists.1) every_kind ≡ true → IsUnkept types lists.0 lists.1
  is_unkept lists e = unkept_by lists (unkept types lists.0 lists.1 Equality) (unkept types lists.0 lists.1 Presence) (unkept types lists.0 lists.1 Substrings) refl refl refl e

  one_of : (f : IndexKind → Bool) (k : IndexKind) → f k ≡ true → list_any f every_kind ≡ true
  one_of f Equality e = or_left (f Equality) _ e
  one_of f Presence e = or_right (f Equality) _ (or_left (f Presence) _ e)
  one_of f Substrings e = or_right (f Equality) _ (or_right (f Presence) _ (or_left (f Substrings) _ e))

  unkept_too : (lists : Lists) → IsUnkept types lists.0 lists.1 → list_any (unkept types lists.0 lists.1) every_kind ≡ true
  unkept_too lists h = one_of (unkept types lists.0 lists.1) h.0 (λ j. h.1 j && h.2 j)

  module _ (text : List ℕ) where
    no_form : (o : Option Lists) → listed (words text) ≡ o → not (is_some o) ≡ true → HasIndexFlaw types text Form
    no_form (Some lists) is e = absurd cc
    no_form None is e = λ names kinds h. absurd (let both = sym is ∙ are_lists text names kinds h in cc)

    no_form_too : (o : Option Lists) → listed (words text) ≡ o → HasIndexFlaw types text Form → not (is_some o) ≡ true
    no_form_too (Some lists) is h = absurd (h lists.0 lists.1 (lists_are text (words text) refl lists is))
    no_form_too None is h = refl

    unknown : (o : Option Lists) → listed (words text) ≡ o → unknown_in o ≡ true → HasIndexFlaw types text UnknownName
    unknown None is e = absurd cc
    unknown (Some lists) is e = (lists.0, lists.1, lists_are text (words text) refl lists is, not-true (list_all (is_type types) lists.0) e)

    unfit : (o : Option Lists) → listed (words text) ≡ o → unkept_in o ≡ true → HasIndexFlaw types text Index
    unfit None is e = absurd cc
    unfit (Some lists) is e = (
      lists.0,
      lists.1,
      lists_are text (words text) refl lists is,
      elim (or_cases (not (list_all is_some_kind lists.1)) (list_any (unkept types lists.0 lists.1) every_kind) e) [
        | inl k ↦ inl (not-true (list_all is_some_kind lists.1) k)
        | inr k ↦ inr (is_unkept lists k)
      ],
    )

    unfit_too : (lists : Lists) → (list_all is_some_kind lists.1 ≡ false) ⊎ IsUnkept types lists.0 lists.1 → unkept_in (Some lists) ≡ true
    unfit_too lists (inl e) = or_left (not (list_all is_some_kind lists.1)) _ (not_from_false (list_all is_some_kind lists.1) e)
    unfit_too lists (inr h) = or_right (not (list_all is_some_kind lists.1)) _ (unkept_too lists h)

    tells : Tells (index_test (listed (words text))) (HasIndexFlaw types text)
    tells Form = (no_form (listed (words text)) refl, no_form_too (listed (words text)) refl)
    tells UnknownName = (unknown (listed (words text)) refl, λ h. ap unknown_in (are_lists text h.0 h.1 h.2) ∙ not_from_false (list_all (is_type types) h.0) h.3)
    tells Index = (unfit (listed (words text)) refl, λ h. ap unkept_in (are_lists text h.0 h.1 h.2) ∙ unfit_too (h.0, h.1) h.3)
    tells Keyword = (λ e. absurd cc, λ h. absurd h)
    tells Twice = (λ e. absurd cc, λ h. absurd h)
    tells Subtype = (λ e. absurd cc, λ h. absurd h)
    tells RuleSyntax = (λ e. absurd cc, λ h. absurd h)
    tells Suffix = (λ e. absurd cc, λ h. absurd h)
    tells Collective = (λ e. absurd cc, λ h. absurd h)
    tells TooManyTypes = (λ e. absurd cc, λ h. absurd h)

  -- ---- the line

  module _ (line : ℕ) where
    abbrev Slots : Type 0
    Slots = Result (List Slot) At

    abbrev of_kinds : List ℕ → Result (List IndexKind) At → Slots
    of_kinds ts r = r >>= λ ks. if_kept types line (slots_with ts (each_once ks))

    abbrev of_types : List (List ℕ) → Result (List ℕ) At → Slots
    of_types kinds r = r >>= λ ts. of_kinds ts (each (kind_named line) kinds)

    abbrev of_lists : List (List ℕ) → List (List ℕ) → Slots
    of_lists names kinds = of_types kinds (each (type_named types line) names)

    kept_told : (names kinds : List (List ℕ)) (ts : List ℕ) (ks : List IndexKind) → each (type_named types line) names ≡ Ok ts → each (kind_named line) kinds ≡ Ok ks
        → Told line (cond (list_any (unkept types names kinds) every_kind) (Some Index) None) (if_kept types line (slots_with ts (each_once ks)))
    kept_told names kinds ts ks te ke = by (list_any (unkept types names kinds) every_kind) (all_kept types line names kinds ts ks te ke)
      where
        by : (u : Bool) → list_all (can_be_kept types) (slots_with ts (each_once ks)) ≡ not u → Told line (cond u (Some Index) None) (if_kept types line (slots_with ts (each_once ks)))
        by true e = inr (Index, refl, ap (λ (b : Bool). cond {A = Slots} b (Ok (slots_with ts (each_once ks))) (Err (line, Index))) e)
        by false e = inl (refl, (slots_with ts (each_once ks), ap (λ (b : Bool). cond {A = Slots} b (Ok (slots_with ts (each_once ks))) (Err (line, Index))) e))

    types_there : (names : List (List ℕ)) (b : Bool) → list_all (is_type types) names ≡ b → list_all (λ n. is_some (type_of types n)) names ≡ b
    types_there names b e = all_same (λ n. is_some (type_of types n)) (is_type types) (type_is_there types) names ∙ e

    lists_told : (names kinds : List (List ℕ)) (a b : Bool) → list_all (is_type types) names ≡ a → list_all is_some_kind kinds ≡ b
        → Told line (cond (not a) (Some UnknownName) (cond (not b || list_any (unkept types names kinds) every_kind) (Some Index) None)) (of_lists names kinds)
    lists_told names kinds false b ea eb = inr (UnknownName, refl, ap (of_types kinds) (one_isnt_there (type_of types) line names (types_there names false ea)))
    lists_told names kinds true false ea eb =
        let ts = each_there (type_of types) line names (types_there names true ea) in
        inr (Index, refl, ap (of_types kinds) ts.1 ∙ ap (of_kinds ts.0) (one_is_no_kind line kinds eb))
    lists_told names kinds true true ea eb =
        let ts = each_there (type_of types) line names (types_there names true ea) in
        let ks = each_kind line kinds eb in
        subst (Told line (cond (list_any (unkept types names kinds) every_kind) (Some Index) None)) (sym (ap (of_types kinds) ts.1 ∙ ap (of_kinds ts.0) ks.1))
        (kept_told names kinds ts.0 ks.0 ts.1 ks.1)

    abbrev pub all_tests : Option Lists → Option ConfFaultKind
    all_tests lists = first_of (index_test lists) index_order

    abbrev from_words : Result (List ℕ × List ℕ) At → Slots
    from_words r = r >>= λ lists. members line lists.0 >>= λ names. members line lists.1 >>= λ kinds. of_lists names kinds

    two_told : (names kinds : List (List ℕ)) (a b : Bool) → gap names ≡ a → gap kinds ≡ b
        → Told line (all_tests (unless_gap (a || b) (names, kinds))) (cond {A = Result (List (List ℕ)) At} a (Err (line, Form)) (Ok names) >>= λ ns. cond {A = Result (List (List ℕ)) At} b (Err (line, Form)) (Ok kinds) >>= λ ks. of_lists ns ks)
    two_told names kinds true b ea eb = inr (Form, refl, refl)
    two_told names kinds false true ea eb = inr (Form, refl, refl)
    two_told names kinds false false ea eb = lists_told names kinds (list_all (is_type types) names) (list_all is_some_kind kinds) refl refl

    words_told : (ws : List (List ℕ)) → Told line (all_tests (listed ws)) (from_words (two_words line ws))
    words_told [] = inr (Form, refl, refl)
    words_told (a ∷ []) = inr (Form, refl, refl)
    words_told (a ∷ b ∷ c ∷ others) = inr (Form, refl, refl)
    words_told (a ∷ b ∷ []) = two_told (split a) (split b) (gap (split a)) (gap (split b)) refl refl

    pub slots_told : (text : List ℕ) → Told line (all_tests (listed (words text))) (slots_in types line text)
    unfolding slots_in
    slots_told text = words_told (words text)

    pub index_faulty : (text : List ℕ) (at : ℕ) (kind : ConfFaultKind) → slots_in types line text ≡ Err (at, kind) → (at ≡ line) × IsFirstFlaw ConfFaultKind (HasIndexFlaw types text) index_order kind
    index_faulty text at kind e =
        let told = told_is line (all_tests (listed (words text))) (slots_in types line text) at kind (slots_told text) e in
        (told.0, is_first_flaw (index_test (listed (words text))) (HasIndexFlaw types text) (tells text) index_order kind told.1)

    pub index_fails : (text : List ℕ) (kind : ConfFaultKind) → IsFirstFlaw ConfFaultKind (HasIndexFlaw types text) index_order kind → slots_in types line text ≡ Err (line, kind)
    index_fails text kind h = is_told line (all_tests (listed (words text))) (slots_in types line text) kind (slots_told text) (first_is (index_test (listed (words text))) (HasIndexFlaw types text) (tells text) index_order kind h)
