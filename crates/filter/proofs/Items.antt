-- What a prepared item says of a stored entry is what the item says of the entry.
use Rattle.std.proofs.Common.{◌≡◌, ℕ, ◌<◌, Bool, true, false, ◌&&◌, List, length, Option, Some, None, refl, ap, ◌∙◌}
use Rattle.std.specs.Prelude.{is_some, if◌then◌else◌}
use Rattle.std.specs.List.{list_any, list_all, AllByRecursion}
use Rattle.std.specs.Option.{option_and_then}
use Rattle.std.proofs.lemmas.Bool.{and_parts, ltb-true}
use Rattle.values.specs.declared.types.AttributeType.{AttributeType}
use Rattle.values.specs.declared.types.EqualityRule.{EqualityRule}
use Rattle.values.specs.Types.{type_at, type_of, has_equality, plain_family}
use Rattle.schema.specs.Values.{is_valid_at, norm_at}
use Rattle.schema.proofs.Found.{found_is_known}
use Rattle.entries.specs.StoredEntries.{EntryAttribute, attributes_of, IsMadeAttribute}
use Rattle.filter_text.specs.declared.items.Item.{Item}
use Rattle.filter_text.specs.declared.items.Item.TheVariants as items
use Rattle.filter.specs.declared.truth.Truth.TheVariants as truths
use Rattle.filter.specs.declared.assertion.Assertion.{Assertion}
use Rattle.filter.specs.declared.assertion.Assertion.TheVariants.{Equality, GreaterOrEqual, LessOrEqual, Present, Substrings}
use Rattle.schema.specs.Subtypes.{subtypes}
use Rattle.filter.specs.Items.{item_type, item_pieces, texts_of, order_of, asks_for, attribute_of, values_under, true_or_false, truth_at, item_truth}
use Rattle.filter.specs.Prepared.{only_if, assertion_of, prepared_with, prepared_at, prepared_item, matches, has_match, item_test}
use Rattle.schema.proofs.SubtypeTests.{AreTypes}
use Rattle.filter.proofs.SubtypeRules.{same_norm}
use Rattle.filter.proofs.Values.{AsksFor, of_entry}

if_defined : (types : List AttributeType) (t : ℕ) (attrs : List EntryAttribute) (b : Bool) (a : Assertion) (x : Bool)
    → (b ≡ true → has_match (subtypes types t) a attrs ≡ x) → item_test attrs (prepared_with types t (only_if b a)) ≡ (if b then true_or_false x else truths.Undefined)
if_defined types t attrs true a x h = ap true_or_false (h refl)
if_defined types t attrs false a x h = refl

-- a type with a rule of order or of substrings has an equality rule
has_rule : (equality : Option EqualityRule) → is_some (plain_family equality) ≡ true → is_some equality ≡ true
has_rule None e = cc
has_rule (Some rule) e = refl

-- an assertion asks for the values that the item asks for, where the type has an equality rule
by_rule : (types : List AttributeType) → AreTypes types → (t : ℕ) (a : Assertion) (p : List ℕ → Bool) → ((v : List ℕ) → matches a (norm_at types t v) ≡ p v) → has_equality types t ≡ true → AsksFor types t a p
by_rule types each t a p h some u lt below v = ap (matches a) (same_norm types each t u below lt some v) ∙ h v

-- a type that is named is there
named_is_known : (types : List AttributeType) (name : Option (List ℕ)) (t : ℕ) → option_and_then (type_of types) name ≡ Some t → t < length types
named_is_known types None t e = cc
named_is_known types (Some name) t e = ltb-true t (length types) (found_is_known types name t e)

module _ (types : List AttributeType) (each : AreTypes types) (attrs : List EntryAttribute) (made : AllByRecursion (IsMadeAttribute types) attrs) where
  seen : (t : ℕ) (item : Item) (a : Assertion) → ((v : List ℕ) → matches a (norm_at types t v) ≡ asks_for types t item v) → has_equality types t ≡ true
      → has_match (subtypes types t) a attrs ≡ list_any (asks_for types t item) (values_under types (attributes_of attrs) t)
  seen t item a h some = of_entry types t a (asks_for types t item) (by_rule types each t a (asks_for types t item) h some) attrs made

  at_type : (t : ℕ) → t < length types → (item : Item) → item_test attrs (prepared_with types t (assertion_of types t item)) ≡ truth_at types (attributes_of attrs) item (Some t)
  at_type t lt (items.Equality attribute value) =
      if_defined types t attrs (has_equality types t && is_valid_at types t value) (Equality (norm_at types t value)) _
      (λ e. seen t (items.Equality attribute value) (Equality (norm_at types t value)) (λ v. refl) (and_parts (has_equality types t) (is_valid_at types t value) e).0)
  at_type t lt (items.Approx attribute value) =
      if_defined types t attrs (has_equality types t && is_valid_at types t value) (Equality (norm_at types t value)) _
      (λ e. seen t (items.Approx attribute value) (Equality (norm_at types t value)) (λ v. refl) (and_parts (has_equality types t) (is_valid_at types t value) e).0)
  at_type t lt (items.GreaterOrEqual attribute value) =
      if_defined types t attrs ((type_at types t).is_ordered && is_valid_at types t value) (GreaterOrEqual (order_of types t) (norm_at types t value)) _
      (λ e. seen t (items.GreaterOrEqual attribute value) (GreaterOrEqual (order_of types t) (norm_at types t value)) (λ v. refl)
      (has_rule ((type_at types t).equality) ((each t lt).ordered (and_parts ((type_at types t).is_ordered) (is_valid_at types t value) e).0)))
  at_type t lt (items.LessOrEqual attribute value) =
      if_defined types t attrs ((type_at types t).is_ordered && is_valid_at types t value) (LessOrEqual (order_of types t) (norm_at types t value)) _
      (λ e. seen t (items.LessOrEqual attribute value) (LessOrEqual (order_of types t) (norm_at types t value)) (λ v. refl)
      (has_rule ((type_at types t).equality) ((each t lt).ordered (and_parts ((type_at types t).is_ordered) (is_valid_at types t value) e).0)))
  at_type t lt (items.Present attribute) = ap true_or_false (of_entry types t Present (λ v. true) (λ u lt below v. refl) attrs made)
  at_type t lt (items.Substrings attribute initial any last) =
      if_defined types t attrs ((type_at types t).has_substrings && list_all (is_valid_at types t) (texts_of initial any last)) (Substrings (item_pieces types t initial any last)) _
      (λ e. seen t (items.Substrings attribute initial any last) (Substrings (item_pieces types t initial any last)) (λ v. refl)
      (has_rule ((type_at types t).equality) ((each t lt).substrings (and_parts ((type_at types t).has_substrings) (list_all (is_valid_at types t) (texts_of initial any last)) e).0)))
  at_type t lt (items.Extensible attribute words value) = refl

  by_type : (item : Item) (o : Option ℕ) → ((t : ℕ) → o ≡ Some t → t < length types) → item_test attrs (prepared_at types item o) ≡ truth_at types (attributes_of attrs) item o
  by_type item None known = refl
  by_type item (Some t) known = at_type t (known t refl) item

  pub item_law : (item : Item) → item_test attrs (prepared_item types item) ≡ item_truth types (attributes_of attrs) item
  item_law item = by_type item (item_type types item) (named_is_known types (attribute_of item))
