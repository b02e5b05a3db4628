-- What an item of a filter says of an entry (RFC 4511, 4.5.1.7).
use Rattle.std.specs.Prelude.{ℕ, Bool, true, false, not, ◌&&◌, ◌||◌, List, [], ◌∷◌, ◌++◌, Option, Some, None, unwrap_or, if◌then◌else◌}
use Rattle.std.specs.List.{list_any, list_all, flat_map}
use Rattle.std.specs.Option.{option_and_then}
use Rattle.matching.specs.declared.family.Family.{Family}
use Rattle.matching.specs.declared.family.Family.TheVariants as families
use Rattle.matching.specs.declared.substrings.Pieces.{Pieces}
use Rattle.values.specs.declared.types.AttributeType.{AttributeType}
use Rattle.values.specs.Types.{type_of, type_at, has_equality, plain_family}
use Rattle.schema.specs.Values.{is_valid_at, norm_at, are_equal, pieces_of}
use Rattle.entries.specs.Entries.{Attributes}
use Rattle.filter_text.specs.declared.items.Item.{Item}
use Rattle.filter_text.specs.declared.items.Item.TheVariants.{Equality, Approx, GreaterOrEqual, LessOrEqual, Present, Substrings, Extensible}
use Rattle.filter.specs.declared.truth.Truth.{Truth}
use Rattle.filter.specs.declared.truth.Truth.TheVariants.{True, Undefined, False}
use Rattle.filter.specs.Orders.{comes_before}
use Rattle.filter.specs.Pieces.{fits}
use Rattle.schema.specs.Subtypes.{is_subtype}

-- ---- the type that an item is about

abbrev pub attribute_of : Item → Option (List ℕ)
attribute_of (Equality attribute value) = Some attribute
attribute_of (Approx attribute value) = Some attribute
attribute_of (GreaterOrEqual attribute value) = Some attribute
attribute_of (LessOrEqual attribute value) = Some attribute
attribute_of (Present attribute) = Some attribute
attribute_of (Substrings attribute initial any last) = Some attribute
attribute_of (Extensible attribute words value) = attribute

abbrev pub item_type : List AttributeType → Item → Option ℕ
item_type types item = option_and_then (type_of types) (attribute_of item)

-- ---- pieces

abbrev pub one_or_none : Option (List ℕ) → List (List ℕ)
one_or_none None = []
one_or_none (Some piece) = piece ∷ []

-- the pieces in order
abbrev pub texts_of : Option (List ℕ) → List (List ℕ) → Option (List ℕ) → List (List ℕ)
texts_of initial any last = one_or_none initial ++ (any ++ one_or_none last)

-- whether a star stands where this piece could
abbrev pub is_star : Option (List ℕ) → Bool
is_star None = true
is_star (Some piece) = false

-- the pieces in their normal forms
abbrev pub item_pieces : List AttributeType → ℕ → Option (List ℕ) → List (List ℕ) → Option (List ℕ) → Pieces
item_pieces types t initial any last = pieces_of types t (is_star initial) (is_star last) (texts_of initial any last)

abbrev pub contains : Pieces → List ℕ → Bool
contains p norm = fits p.front p.back p.pieces norm

-- ---- values in order

-- the family whose order the ordering rule of a type has; without such a rule it doesn't matter
abbrev pub order_of : List AttributeType → ℕ → Family
order_of types t = unwrap_or (plain_family (type_at types t).equality) families.Octet

abbrev pub is_less : List AttributeType → ℕ → List ℕ → List ℕ → Bool
is_less types t v w = comes_before (order_of types t) (norm_at types t v) (norm_at types t w)

-- ---- what an item asks

-- whether it can be told: the type has a rule of the kind that is needed, and each value and piece is valid for its syntax
abbrev pub is_defined : List AttributeType → ℕ → Item → Bool
is_defined types t (Equality attribute value) = has_equality types t && is_valid_at types t value
is_defined types t (Approx attribute value) = has_equality types t && is_valid_at types t value
is_defined types t (GreaterOrEqual attribute value) = (type_at types t).is_ordered && is_valid_at types t value
is_defined types t (LessOrEqual attribute value) = (type_at types t).is_ordered && is_valid_at types t value
is_defined types t (Present attribute) = true
is_defined types t (Substrings attribute initial any last) = (type_at types t).has_substrings && list_all (is_valid_at types t) (texts_of initial any last)
is_defined types t (Extensible attribute words value) = false

-- whether a value is one that it asks for, by the rules of the type
abbrev pub asks_for : List AttributeType → ℕ → Item → List ℕ → Bool
asks_for types t (Equality attribute value) v = are_equal types t v value
asks_for types t (Approx attribute value) v = are_equal types t v value
asks_for types t (GreaterOrEqual attribute value) v = not (is_less types t v value)
asks_for types t (LessOrEqual attribute value) v = is_less types t v value || are_equal types t v value
asks_for types t (Present attribute) v = true
asks_for types t (Substrings attribute initial any last) v = contains (item_pieces types t initial any last) (norm_at types t v)
asks_for types t (Extensible attribute words value) v = false

-- ---- what it says

-- the values of a type and of its subtypes
abbrev pub values_under : List AttributeType → Attributes → ℕ → List (List ℕ)
values_under types attrs t = flat_map (λ a. if is_subtype types a.0 t then a.1 else []) attrs

abbrev pub true_or_false : Bool → Truth
true_or_false b = if b then True else False

abbrev pub truth_at : List AttributeType → Attributes → Item → Option ℕ → Truth
truth_at types attrs item None = Undefined
truth_at types attrs item (Some t) = if is_defined types t item then true_or_false (list_any (asks_for types t item) (values_under types attrs t)) else Undefined

-- Undefined where no type has the name or it can't be told, else whether it asks for one of the values
abbrev pub item_truth : List AttributeType → Attributes → Item → Truth
item_truth types attrs item = truth_at types attrs item (item_type types item)
