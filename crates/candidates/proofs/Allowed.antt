-- What a filter is of an entry, its sides allow.
use Rattle.std.proofs.Common.{◌≡◌, ◌↔◌, ℕ, Bool, true, false, not, ◌&&◌, ◌||◌, Option, None, Some, List, [], ◌∷◌, refl, sym, ap, subst, ◌∙◌}
use Rattle.std.proofs.lemmas.Bool.{and_from, or_left, or_right}
use Rattle.std.specs.List.{list_any, flat_map, AllByRecursion}
use Rattle.std.specs.Str.{bytes_eq}
use Rattle.values.specs.declared.types.AttributeType.{AttributeType}
use Rattle.matching.specs.Substrings.{Fits}
use Rattle.schema.specs.declared.slots.IndexKind.TheVariants as kinds
use Rattle.schema.specs.Conf.{Conf, IsConf}
use Rattle.entries.specs.Entries.{Attributes, IsAttribute}
use Rattle.entries.specs.StoredEntries.{EntryAttribute, attributes_of, IsMade}
use Rattle.filter_text.specs.declared.items.Item.{Item}
use Rattle.filter_text.specs.Spells as texts
use Rattle.filter.specs.declared.truth.Truth.{Truth}
use Rattle.filter.specs.declared.truth.Truth.TheVariants.{True, Undefined, False}
use Rattle.filter.specs.declared.assertion.Assertion.{Assertion}
use Rattle.filter.specs.declared.assertion.Assertion.TheVariants.{Equality, GreaterOrEqual, LessOrEqual, Present, Substrings}
use Rattle.filter.specs.Filters.{truth}
use Rattle.filter.specs.Items.{item_type, true_or_false}
use Rattle.filter.specs.Pieces.{fits}
use Rattle.filter.specs.Prepared.{matches, assertion_of, prepared_with, prepared_at, item_test, prepared_filter, prepared_filters, filter_test, filter_tests}
use Rattle.filter.specs.Truths.{and_of, or_of, opposite}
use Rattle.filter.proofs.Truths.{lesser, greater, and_of_more, or_of_more}
use Rattle.index_keys.specs.EntryKeys.{norms_under, windows, empty_key}
use Rattle.index_text.specs.Postings.{Shown}
use Rattle.candidates.specs.Brackets.{Allows, Reflects}
use Rattle.candidates.specs.Sides.{Sides, unknown, exactly, at_most, if_indexed, is_member, has_windows, assertion_sides, item_sides, all_sides, any_sides, swapped, sides, sides_each}
use Rattle.candidates.proofs.Norms.{stored, attributes-stored, are_made, any_norm}
use Rattle.candidates.proofs.Windows.{in_fitting, of_each}

-- ---- operands together

both : (t u : Truth) (a b c d : Bool) → Allows t (record { may = a; may_not = b }) → Allows u (record { may = c; may_not = d }) → Allows (lesser t u) (record { may = a && c; may_not = b || d })
both True u a b c d p q = record { if_true = λ x. and_from a c (p.if_true refl) (q.if_true x); if_false = λ x. or_right b d (q.if_false x) }
both False u a b c d p q = record { if_true = λ x. cc; if_false = λ x. or_left b d (p.if_false refl) }
both Undefined True a b c d p q = record { if_true = λ x. cc; if_false = λ x. cc }
both Undefined Undefined a b c d p q = record { if_true = λ x. cc; if_false = λ x. cc }
both Undefined False a b c d p q = record { if_true = λ x. cc; if_false = λ x. or_right b d (q.if_false refl) }

either : (t u : Truth) (a b c d : Bool) → Allows t (record { may = a; may_not = b }) → Allows u (record { may = c; may_not = d }) → Allows (greater t u) (record { may = a || c; may_not = b && d })
either False u a b c d p q = record { if_true = λ x. or_right a c (q.if_true x); if_false = λ x. and_from b d (p.if_false refl) (q.if_false x) }
either True u a b c d p q = record { if_true = λ x. or_left a c (p.if_true refl); if_false = λ x. cc }
either Undefined False a b c d p q = record { if_true = λ x. cc; if_false = λ x. cc }
either Undefined Undefined a b c d p q = record { if_true = λ x. cc; if_false = λ x. cc }
either Undefined True a b c d p q = record { if_true = λ x. or_right a c (q.if_true refl); if_false = λ x. cc }

turned : (t : Truth) (s : Sides) → Allows t s → Allows (opposite t) (swapped s)
turned True s p = record { if_true = λ x. cc; if_false = λ x. p.if_true refl }
turned False s p = record { if_true = λ x. p.if_false refl; if_false = λ x. cc }
turned Undefined s p = record { if_true = λ x. cc; if_false = λ x. cc }

-- ---- items

of_undefined : (s : Sides) → Allows Undefined s
of_undefined s = record { if_true = λ x. cc; if_false = λ x. cc }

of_unknown : (t : Truth) → Allows t unknown
of_unknown t = record { if_true = λ _. refl; if_false = λ _. refl }

of_exactly : (b a : Bool) → a ≡ b → Allows (true_or_false b) (exactly a)
of_exactly true a e = record { if_true = λ x. e; if_false = λ x. cc }
of_exactly false a e = record { if_true = λ x. cc; if_false = λ x. ap not e }

of_at_most : (b a : Bool) → (b ≡ true → a ≡ true) → Allows (true_or_false b) (at_most a)
of_at_most true a h = record { if_true = λ x. h refl; if_false = λ x. cc }
of_at_most false a h = record { if_true = λ x. cc; if_false = λ x. refl }

-- the empty key is there where there is a value
present : (norms : List (List ℕ)) → list_any (λ k. bytes_eq k []) (empty_key norms) ≡ list_any (λ _. true) norms
present [] = refl
present (norm ∷ norms) = refl

-- so it is where a value passes some test
present_if : (test : List ℕ → Bool) (norms : List (List ℕ)) → list_any test norms ≡ true → list_any (λ k. bytes_eq k []) (empty_key norms) ≡ true
present_if test [] e = cc
present_if test (norm ∷ norms) e = refl

module _ (told : (front back : Bool) (pieces : List (List ℕ)) (text : List ℕ) → (fits front back pieces text ≡ true) ↔ Fits front back pieces text) where
  module _ (shown : Shown) (types : List AttributeType) (n : ℕ) (attrs : Attributes) (h : Reflects shown types n attrs) where
    by_exactly : (o : Option ℕ) (key : List ℕ) (b : Bool) → ((s : ℕ) → o ≡ Some s → is_member shown n s key ≡ b) → Allows (true_or_false b) (if_indexed o (λ s. exactly (is_member shown n s key)))
    by_exactly None key b is = of_unknown (true_or_false b)
    by_exactly (Some s) key b is = of_exactly b (is_member shown n s key) (is s refl)

    by_at_most : (o : Option ℕ) (test : ℕ → Bool) (b : Bool) → ((s : ℕ) → o ≡ Some s → b ≡ true → test s ≡ true) → Allows (true_or_false b) (if_indexed o (λ s. at_most (test s)))
    by_at_most None test b is = of_unknown (true_or_false b)
    by_at_most (Some s) test b is = of_at_most b (test s) (is s refl)

    of_assertion : (t : ℕ) (a : Assertion) → Allows (true_or_false (list_any (matches a) (norms_under types attrs t))) (assertion_sides shown n t a)
    of_assertion t (Equality value) =
        by_exactly (shown.slot_of t kinds.Equality) value (list_any (matches (Equality value)) (norms_under types attrs t)) (λ s is. h.exactly t kinds.Equality s value is)
    of_assertion t Present =
        by_exactly (shown.slot_of t kinds.Presence) [] (list_any (matches Present) (norms_under types attrs t)) (λ s is. h.exactly t kinds.Presence s [] is ∙ present (norms_under types attrs t))
    of_assertion t (GreaterOrEqual family value) =
        let test = matches (GreaterOrEqual family value) in
        by_at_most (shown.slot_of t kinds.Presence) (λ s. is_member shown n s []) (list_any test (norms_under types attrs t)) (λ s is e. h.exactly t kinds.Presence s [] is ∙ present_if test (norms_under types attrs t) e)
    of_assertion t (LessOrEqual family value) =
        let test = matches (LessOrEqual family value) in
        by_at_most (shown.slot_of t kinds.Presence) (λ s. is_member shown n s []) (list_any test (norms_under types attrs t)) (λ s is e. h.exactly t kinds.Presence s [] is ∙ present_if test (norms_under types attrs t) e)
    of_assertion t (Substrings p) =
        by_at_most (shown.slot_of t kinds.Substrings) (λ s. has_windows shown n s p.pieces) (list_any (matches (Substrings p)) (norms_under types attrs t))
        (λ s is e. of_each (is_member shown n s) (flat_map windows p.pieces) (λ key there.
        h.exactly t kinds.Substrings s key is ∙ in_fitting key p.front p.back p.pieces (told p.front p.back p.pieces) there (norms_under types attrs t) e))

    module _ (all : AllByRecursion (IsAttribute types) attrs) where
      of_prepared : (t : ℕ) (o : Option Assertion) → Allows (item_test (stored types attrs) (prepared_with types t o)) (item_sides shown n (prepared_with types t o))
      of_prepared t None = of_undefined _
      of_prepared t (Some a) = subst (λ (b : Bool). Allows (true_or_false b) (assertion_sides shown n t a)) (sym (any_norm types (matches a) t attrs all)) (of_assertion t a)

      of_item : (item : Item) (o : Option ℕ) → Allows (item_test (stored types attrs) (prepared_at types item o)) (item_sides shown n (prepared_at types item o))
      of_item item None = of_undefined _
      of_item item (Some t) = of_prepared t (assertion_of types t item)

      -- ---- filters

      mutual
        of_filter : (f : texts.FilterContent) → Allows (filter_test (stored types attrs) (prepared_filter types f)) (sides shown n (prepared_filter types f))
        of_filter (texts.All_of operands) = of_all operands
        of_filter (texts.Any_of operands) = of_any operands
        of_filter (texts.Not_of operand) = turned (filter_test (stored types attrs) (prepared_filter types operand)) (sides shown n (prepared_filter types operand)) (of_filter operand)
        of_filter (texts.Leaf item) = of_item item (item_type types item)

        of_all : (fs : texts.FilterContents) → Allows (and_of (filter_tests (stored types attrs) (prepared_filters types fs))) (all_sides (sides_each shown n (prepared_filters types fs)))
        of_all texts.No_more = record { if_true = λ _. refl; if_false = λ x. cc }
        of_all (texts.And_then first rest) =
            rw (and_of_more (filter_test (stored types attrs) (prepared_filter types first)) (filter_tests (stored types attrs) (prepared_filters types rest)))
            (both (filter_test (stored types attrs) (prepared_filter types first)) (and_of (filter_tests (stored types attrs) (prepared_filters types rest))) _ _ _ _ (of_filter first) (of_all rest))

        of_any : (fs : texts.FilterContents) → Allows (or_of (filter_tests (stored types attrs) (prepared_filters types fs))) (any_sides (sides_each shown n (prepared_filters types fs)))
        of_any texts.No_more = record { if_true = λ x. cc; if_false = λ _. refl }
        of_any (texts.And_then first rest) =
            rw (or_of_more (filter_test (stored types attrs) (prepared_filter types first)) (filter_tests (stored types attrs) (prepared_filters types rest)))
            (either (filter_test (stored types attrs) (prepared_filter types first)) (or_of (filter_tests (stored types attrs) (prepared_filters types rest))) _ _ _ _ (of_filter first) (of_any rest))

  -- of the contents of an entry, as it is of the entry that is stored
  pub of_contents : ((conf : Conf) (attrs : List EntryAttribute) (f : texts.FilterContent) → IsConf conf → IsMade conf.types attrs → filter_test attrs (prepared_filter conf.types f) ≡ truth conf.types (attributes_of attrs) f)
      → (conf : Conf) (shown : Shown) (n : ℕ) (attrs : Attributes) (f : texts.FilterContent) → IsConf conf → AllByRecursion (IsAttribute conf.types) attrs → Reflects shown conf.types n attrs
      → Allows (truth conf.types attrs f) (sides shown n (prepared_filter conf.types f))
  of_contents same conf shown n attrs f is all h =
      let test = filter_test (stored conf.types attrs) (prepared_filter conf.types f) in
      let it_is : test ≡ truth conf.types attrs f =
      same conf (stored conf.types attrs) f is (record { each = are_made conf.types attrs all }) ∙ ap (λ (these : Attributes). truth conf.types these f) (attributes-stored conf.types attrs) in
      subst (λ (t : Truth). Allows t (sides shown n (prepared_filter conf.types f))) it_is (of_filter shown conf.types n attrs h all f)
