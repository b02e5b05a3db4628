-- The values of a directory one by one, each with its entry and its type, in the order of the dump.
use Rattle.std.specs.Prelude.{◌≡◌, ℕ, Bool, ◌&&◌, nat_eq, List, map, Some}
use Rattle.std.specs.List.{flat_map, Contains}
use Rattle.std.specs.Ordering.{eq_by_cmp}
use Rattle.std.specs.Str.{bytes_eq}
use Rattle.std.specs.FinMap as finite
use Rattle.paths.specs.Paths.{Path, path_cmp}
use Rattle.entries.specs.Entries.{Attribute, EntryContent}
use Rattle.tree.specs.Directories.{Entries}
use Rattle.checks.specs.declared.entry_value.EntryValue.{EntryValue}

-- those of an attribute
abbrev pub attribute_values : Path → Attribute → List EntryValue
attribute_values p a = map (λ v. record { path = p; type_id = a.0; value = v }) a.1

-- those of an entry, attribute by attribute
abbrev pub entry_values : Path × EntryContent → List EntryValue
entry_values e = flat_map (attribute_values e.0) e.1.attrs

-- those of all entries
abbrev pub all_values : Entries → List EntryValue
all_values d = flat_map entry_values (finite.entries d)

-- an entry of the directory has this value in its attribute of this type
pub record IsThere (d : Entries) (v : EntryValue) : Type 0 where
  pub entry : EntryContent
  pub at : finite.get d v.path ≡ Some entry
  pub values : List (List ℕ)
  pub attribute : Contains entry.attrs (v.type_id, values)
  pub value : Contains values v.value

-- whether these are one value: of one entry and of one type, written the same
abbrev pub is_same_value : EntryValue → EntryValue → Bool
is_same_value v w = eq_by_cmp path_cmp v.path w.path && (nat_eq v.type_id w.type_id && bytes_eq v.value w.value)
