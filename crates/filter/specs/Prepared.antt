-- Filters whose items are prepared under a configuration, and what they say of entries as they are stored.
use Rattle.std.specs.Prelude.{ℕ, Bool, true, not, ◌&&◌, ◌||◌, ◌==◌, List, [], ◌∷◌, map, Option, Some, None, if◌then◌else◌}
use Rattle.std.specs.List.{list_any, list_all}
use Rattle.std.specs.Str.{bytes_eq}
use Rattle.matching.specs.declared.family.Family.{Family}
use Rattle.values.specs.declared.types.AttributeType.{AttributeType}
use Rattle.values.specs.Types.{type_at, has_equality}
use Rattle.schema.specs.Values.{is_valid_at, norm_at, pieces_of}
use Rattle.entries.specs.StoredEntries.{EntryAttribute}
use Rattle.filter_text.specs.declared.items.Item as written
use Rattle.filter_text.specs.declared.items.Item.TheVariants as items
use Rattle.filter_text.specs.Spells as texts
use Rattle.filter.specs.declared.truth.Truth.{Truth}
use Rattle.filter.specs.declared.truth.Truth.TheVariants as truths
use Rattle.filter.specs.declared.assertion.Assertion.{Assertion}
use Rattle.filter.specs.declared.assertion.Assertion.TheVariants.{Equality, GreaterOrEqual, LessOrEqual, Present, Substrings}
use Rattle.filter.specs.declared.prepared_item.PreparedItem.{PreparedItem}
use Rattle.filter.specs.declared.prepared_item.PreparedItem.TheVariants.{Undefined, Asserts}
use Rattle.filter.specs.declared.prepared_filter.PreparedFilter.{PreparedFilter}
use Rattle.filter.specs.declared.prepared_filter.PreparedFilter.TheOpen.{PreparedFilter-F, And, Or, Not, Item}
use Rattle.filter.specs.declared.prepared_filter.PreparedFilter.TheFolds.{fold-PreparedFilter}
use Rattle.filter.specs.Truths.{and_of, or_of, opposite}
use Rattle.filter.specs.Orders.{comes_before}
use Rattle.schema.specs.Subtypes.{subtypes}
use Rattle.filter.specs.Items.{item_type, is_star, texts_of, contains, order_of, true_or_false}

-- ---- items

-- x, where this holds
abbrev pub only_if : {X : Type 0} → Bool → X → Option X
only_if b x = if b then Some x else None

-- what is asked of values that equal this one, where the type has an equality rule and the value is valid
abbrev pub equality_assertion : List AttributeType → ℕ → List ℕ → Option Assertion
equality_assertion types t value = only_if (has_equality types t && is_valid_at types t value) (Equality (norm_at types t value))

-- a value that is valid, with the family in whose order it stands, where the type has an ordering rule
abbrev pub bound_of : List AttributeType → ℕ → List ℕ → Option (Family × List ℕ)
bound_of types t value = only_if ((type_at types t).is_ordered && is_valid_at types t value) (order_of types t, norm_at types t value)

-- what is asked of values that aren't below such a value
abbrev pub at_least_assertion : List AttributeType → ℕ → List ℕ → Option Assertion
at_least_assertion types t value = only_if ((type_at types t).is_ordered && is_valid_at types t value) (GreaterOrEqual (order_of types t) (norm_at types t value))

-- and of values that aren't above it
abbrev pub at_most_assertion : List AttributeType → ℕ → List ℕ → Option Assertion
at_most_assertion types t value = only_if ((type_at types t).is_ordered && is_valid_at types t value) (LessOrEqual (order_of types t) (norm_at types t value))

-- what is asked of values with these pieces, where the type has a substrings rule and each piece is valid; front and back say whether
-- a star stands there
abbrev pub substrings_assertion : List AttributeType → ℕ → Bool → Bool → List (List ℕ) → Option Assertion
substrings_assertion types t front back texts =
    only_if ((type_at types t).has_substrings && list_all (is_valid_at types t) texts) (Substrings (pieces_of types t front back texts))

-- what an item asks of normal forms of values of the type, where it can be told
abbrev pub assertion_of : List AttributeType → ℕ → written.Item → Option Assertion
assertion_of types t (items.Equality attribute value) = equality_assertion types t value
assertion_of types t (items.Approx attribute value) = equality_assertion types t value
assertion_of types t (items.GreaterOrEqual attribute value) = at_least_assertion types t value
assertion_of types t (items.LessOrEqual attribute value) = at_most_assertion types t value
assertion_of types t (items.Present attribute) = Some Present
assertion_of types t (items.Substrings attribute initial any last) = substrings_assertion types t (is_star initial) (is_star last) (texts_of initial any last)
assertion_of types t (items.Extensible attribute words value) = None

abbrev pub prepared_with : List AttributeType → ℕ → Option Assertion → PreparedItem
prepared_with types t None = Undefined
prepared_with types t (Some assertion) = Asserts t (subtypes types t) assertion

abbrev pub prepared_at : List AttributeType → written.Item → Option ℕ → PreparedItem
prepared_at types item None = Undefined
prepared_at types item (Some t) = prepared_with types t (assertion_of types t item)

-- the item with its type, that type's subtypes, and what it asks of their values
abbrev pub prepared_item : List AttributeType → written.Item → PreparedItem
prepared_item types item = prepared_at types item (item_type types item)

-- whether the value with this normal form is one that is asked for
abbrev pub matches : Assertion → List ℕ → Bool
matches (Equality value) norm = bytes_eq norm value
matches (GreaterOrEqual family value) norm = not (comes_before family norm value)
matches (LessOrEqual family value) norm = comes_before family norm value || bytes_eq norm value
matches Present norm = true
matches (Substrings pieces) norm = contains pieces norm

abbrev pub is_among : List ℕ → ℕ → Bool
is_among types t = list_any (λ u. u == t) types

-- whether one of the values of these types is asked for
abbrev pub has_match : List ℕ → Assertion → List EntryAttribute → Bool
has_match types assertion attrs = list_any (λ a. is_among types a.0 && list_any (λ v. matches assertion v.norm) a.1) attrs

abbrev pub item_test : List EntryAttribute → PreparedItem → Truth
item_test attrs Undefined = truths.Undefined
item_test attrs (Asserts t types assertion) = true_or_false (has_match types assertion attrs)

-- ---- filters

-- a filter of prepared items without where it lies in memory
mutual
  pub data PreparedContent : Type 0 where
    All_of : (operands : PreparedContents) → PreparedContent
    Any_of : (operands : PreparedContents) → PreparedContent
    Not_of : (operand : PreparedContent) → PreparedContent
    Leaf : (item : PreparedItem) → PreparedContent

  pub data PreparedContents : Type 0 where
    No_more : PreparedContents
    And_then : (first : PreparedContent) (rest : PreparedContents) → PreparedContents

abbrev pub prepared_then : List PreparedContent → PreparedContents → PreparedContents
prepared_then [] us = us
prepared_then (t ∷ ts) us = And_then t (prepared_then ts us)

abbrev pub prepared_view_step : PreparedFilter-F PreparedContent → PreparedContent
prepared_view_step (And fs) = All_of (prepared_then fs.items No_more)
prepared_view_step (Or fs) = Any_of (prepared_then fs.items No_more)
prepared_view_step (Not f) = Not_of f.value
prepared_view_step (Item item) = Leaf item

abbrev pub prepared_view : PreparedFilter → PreparedContent
prepared_view = fold-PreparedFilter PreparedContent prepared_view_step

abbrev pub prepared_views : List PreparedFilter → PreparedContents
prepared_views fs = prepared_then (map prepared_view fs) No_more

-- the same filter with each item prepared
abbrev mutual
  pub prepared_filter : List AttributeType → texts.FilterContent → PreparedContent
  prepared_filter types (texts.All_of operands) = All_of (prepared_filters types operands)
  prepared_filter types (texts.Any_of operands) = Any_of (prepared_filters types operands)
  prepared_filter types (texts.Not_of operand) = Not_of (prepared_filter types operand)
  prepared_filter types (texts.Leaf item) = Leaf (prepared_item types item)

  pub prepared_filters : List AttributeType → texts.FilterContents → PreparedContents
  prepared_filters types texts.No_more = No_more
  prepared_filters types (texts.And_then first rest) = And_then (prepared_filter types first) (prepared_filters types rest)

-- what it says of an entry
abbrev mutual
  pub filter_test : List EntryAttribute → PreparedContent → Truth
  filter_test attrs (All_of operands) = and_of (filter_tests attrs operands)
  filter_test attrs (Any_of operands) = or_of (filter_tests attrs operands)
  filter_test attrs (Not_of operand) = opposite (filter_test attrs operand)
  filter_test attrs (Leaf item) = item_test attrs item

  pub filter_tests : List EntryAttribute → PreparedContents → List Truth
  filter_tests attrs No_more = []
  filter_tests attrs (And_then first rest) = filter_test attrs first ∷ filter_tests attrs rest
