-- The normal forms of an entry's values as it is stored.
use Rattle.std.specs.Prelude.{ℕ, List, [], map, if◌then◌else◌}
use Rattle.std.specs.List.{flat_map}
use Rattle.values.specs.declared.types.AttributeType.{AttributeType}
use Rattle.values.specs.Values.{Value}
use Rattle.entries.specs.StoredEntries.{EntryAttribute}
use Rattle.schema.specs.Subtypes.{is_subtype}

abbrev pub norms_of : List Value → List (List ℕ)
norms_of vs = map (λ v. v.norm) vs

abbrev pub attribute_norms : List AttributeType → ℕ → EntryAttribute → List (List ℕ)
attribute_norms types t a = if is_subtype types a.0 t then norms_of a.1 else []

-- the normal forms of the values of a type and of its subtypes
abbrev pub stored_norms : List AttributeType → List EntryAttribute → ℕ → List (List ℕ)
stored_norms types attrs t = flat_map (attribute_norms types t) attrs
