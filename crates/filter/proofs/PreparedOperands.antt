-- Filters of prepared items, operand by operand.
use Rattle.std.proofs.Common.{◌≡◌, ℕ, ◌+◌, ◌<◌, ◌≤◌, List, [], ◌∷◌, ◌++◌, map, drop, length, get_or, refl, sym, ap, ◌∙◌, add-one, drop-cons}
use Rattle.std.specs.List.{AllByRecursion}
use Rattle.std.proofs.lemmas.List.{map-append}
use Rattle.std.proofs.Math.ListN.{drop_of_length-le}
use Rattle.values.specs.declared.types.AttributeType.{AttributeType}
use Rattle.entries.specs.StoredEntries.{EntryAttribute, attributes_of, IsMadeAttribute}
use Rattle.filter_text.specs.declared.filters.Filter.{Filter}
use Rattle.filter_text.specs.Spells as texts
use Rattle.filter.specs.declared.prepared_filter.PreparedFilter.{PreparedFilter}
use Rattle.filter.specs.declared.truth.Truth.{Truth}
use Rattle.filter.specs.Truths.{and_of, or_of, opposite}
use Rattle.filter.specs.Filters.{truth, truths}
use Rattle.filter.specs.Prepared.{PreparedContent, PreparedContents, And_then, prepared_then, prepared_view, prepared_views, prepared_filter, prepared_filters, filter_test, filter_tests}
use Rattle.schema.proofs.SubtypeTests.{AreTypes}
use Rattle.filter.proofs.Items.{item_law}
use Rattle.filter.proofs.Truths.{lesser, greater, and_of_more, or_of_more}

-- ---- what is prepared says the same

mutual
  pub filter_law : (types : List AttributeType) → AreTypes types → (attrs : List EntryAttribute) → AllByRecursion (IsMadeAttribute types) attrs
      → (f : texts.FilterContent) → filter_test attrs (prepared_filter types f) ≡ truth types (attributes_of attrs) f
  filter_law types each attrs made (texts.All_of operands) = ap and_of (filters_law types each attrs made operands)
  filter_law types each attrs made (texts.Any_of operands) = ap or_of (filters_law types each attrs made operands)
  filter_law types each attrs made (texts.Not_of operand) = ap opposite (filter_law types each attrs made operand)
  filter_law types each attrs made (texts.Leaf item) = item_law types each attrs made item

  filters_law : (types : List AttributeType) → AreTypes types → (attrs : List EntryAttribute) → AllByRecursion (IsMadeAttribute types) attrs
      → (fs : texts.FilterContents) → filter_tests attrs (prepared_filters types fs) ≡ truths types (attributes_of attrs) fs
  filters_law types each attrs made texts.No_more = refl
  filters_law types each attrs made (texts.And_then first rest) =
      ap (λ (t : Truth). t ∷ filter_tests attrs (prepared_filters types rest)) (filter_law types each attrs made first)
      ∙ ap (λ (ts : List Truth). truth types (attributes_of attrs) first ∷ ts) (filters_law types each attrs made rest)

-- ---- one operand after the other

-- the truths of the operands from one on
abbrev pub from_operand : List EntryAttribute → List PreparedFilter → ℕ → List Truth
from_operand attrs fs i = filter_tests attrs (prepared_views (drop i fs))

operand_more : (attrs : List EntryAttribute) (fs : List PreparedFilter) (i : ℕ) (d : PreparedFilter) → i < length fs
    → from_operand attrs fs i ≡ filter_test attrs (prepared_view (get_or fs i d)) ∷ from_operand attrs fs (i + 1)
operand_more attrs fs i d lt = rw (add-one, drop-cons fs i d lt) refl

pub and_next : (attrs : List EntryAttribute) (fs : List PreparedFilter) (i : ℕ) (d : PreparedFilter) → i < length fs
    → and_of (from_operand attrs fs i) ≡ lesser (filter_test attrs (prepared_view (get_or fs i d))) (and_of (from_operand attrs fs (i + 1)))
and_next attrs fs i d lt = ap and_of (operand_more attrs fs i d lt) ∙ and_of_more (filter_test attrs (prepared_view (get_or fs i d))) (from_operand attrs fs (i + 1))

pub or_next : (attrs : List EntryAttribute) (fs : List PreparedFilter) (i : ℕ) (d : PreparedFilter) → i < length fs
    → or_of (from_operand attrs fs i) ≡ greater (filter_test attrs (prepared_view (get_or fs i d))) (or_of (from_operand attrs fs (i + 1)))
or_next attrs fs i d lt = ap or_of (operand_more attrs fs i d lt) ∙ or_of_more (filter_test attrs (prepared_view (get_or fs i d))) (from_operand attrs fs (i + 1))

-- ---- operands prepared

-- the operands that are prepared, and those that are left
abbrev pub prepared_operands : List AttributeType → List PreparedFilter → List Filter → PreparedContents
prepared_operands types done rest = prepared_then (map prepared_view done) (prepared_filters types (texts.views rest))

then_one : (ts : List PreparedContent) (t : PreparedContent) (us : PreparedContents) → prepared_then (ts ++ t ∷ []) us ≡ prepared_then ts (And_then t us)
then_one [] t us = refl
then_one (x ∷ ts) t us = ap (And_then x) (then_one ts t us)

pub operands_next : (types : List AttributeType) (done : List PreparedFilter) (p : PreparedFilter) (fs : List Filter) (i : ℕ) (d : Filter) → i < length fs
    → prepared_view p ≡ prepared_filter types (texts.view (get_or fs i d)) → prepared_operands types (done ++ p ∷ []) (drop (i + 1) fs) ≡ prepared_operands types done (drop i fs)
operands_next types done p fs i d lt is =
    let rest = prepared_filters types (texts.views (drop (i + 1) fs)) in
    ap (λ (ts : List PreparedContent). prepared_then ts rest) (map-append prepared_view done (p ∷ []))
    ∙ then_one (map prepared_view done) (prepared_view p) rest
    ∙ ap (λ (t : PreparedContent). prepared_then (map prepared_view done) (And_then t rest)) is
    ∙ sym (rw (add-one, drop-cons fs i d lt) refl)

pub operands_done : (types : List AttributeType) (done : List PreparedFilter) (fs : List Filter) (i : ℕ) → length fs ≤ i → prepared_operands types done (drop i fs) ≡ prepared_views done
operands_done types done fs i le = ap (λ (rest : List Filter). prepared_operands types done rest) (drop_of_length-le fs le)
