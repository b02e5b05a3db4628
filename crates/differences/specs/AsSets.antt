-- Attributes and values as sets (RFC 4512, 2.5: no order is kept of either), by their equality rules.
use Rattle.std.specs.Prelude.{◌≡◌, ℕ, Bool, true, not, List, ◌++◌, map, nat_eq}
use Rattle.std.specs.List.{AllByRecursion, list_any, filter}
use Rattle.values.specs.declared.types.AttributeType.{AttributeType}
use Rattle.entries.specs.Entries.{Attribute, Attributes, EntryContent, values_of, has_equal}
use Rattle.entries.specs.EntryClasses.{has_type}
use Rattle.differences.specs.EntryChanges.{Values}

-- those that equal some of the others, and those that equal none
abbrev pub equal_to_some : List AttributeType → ℕ → Values → Values → Values
equal_to_some types t others vs = filter (λ v. has_equal types t v others) vs

abbrev pub equal_to_none : List AttributeType → ℕ → Values → Values → Values
equal_to_none types t others vs = filter (λ v. not (has_equal types t v others)) vs

-- of the values before those that are to be there, as they are, and behind them what is new
abbrev pub settled_values : List AttributeType → ℕ → Values → Values → Values
settled_values types t before after = equal_to_some types t after before ++ equal_to_none types t before after

abbrev pub is_among : Attributes → Attribute → Bool
is_among attrs a = list_any (λ x. nat_eq a.0 x.0) attrs

abbrev pub settled_attribute : List AttributeType → Attributes → Attribute → Attribute
settled_attribute types after a = (a.0, settled_values types a.0 a.1 (values_of after a.0))

-- so of the attributes: those before whose type is to be there, and behind them those of the other types
abbrev pub kept_attributes : List AttributeType → Attributes → Attributes → Attributes
kept_attributes types after before = map (settled_attribute types after) (filter (is_among after) before)

abbrev pub new_attributes : Attributes → Attributes → Attributes
new_attributes before after = filter (λ a. not (is_among before a)) after

abbrev pub settled_attributes : List AttributeType → Attributes → Attributes → Attributes
settled_attributes types before after = kept_attributes types after before ++ new_attributes before after

-- what keeps of an entry what another one has as sets, spelled and in the order that it was, its RDN too
abbrev pub settled : List AttributeType → EntryContent → EntryContent → EntryContent
settled types before after = record { rdn = before.rdn; attrs = settled_attributes types before.attrs after.attrs }

-- the same types, each with values of which each equals one of the other's
pub record AreSameSets (types : List AttributeType) (xs ys : Attributes) : Type 0 where
  pub types_same : (t : ℕ) → has_type xs t ≡ has_type ys t
  pub within : (t : ℕ) → AllByRecursion (λ v. has_equal types t v (values_of ys t) ≡ true) (values_of xs t)
  pub covers : (t : ℕ) → AllByRecursion (λ v. has_equal types t v (values_of xs t) ≡ true) (values_of ys t)
