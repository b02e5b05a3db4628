-- The keys of an entry that are still to come.
use Rattle.std.specs.Prelude.{ℕ, Bool, true, false, List, [], ◌++◌}
use Rattle.std.specs.List.{flat_map}
use Rattle.schema.specs.declared.slots.IndexKind.{IndexKind}
use Rattle.schema.specs.declared.slots.IndexKind.TheVariants.{Equality, Presence, Substrings}
use Rattle.index_keys.specs.EntryKeys.{windows, empty_key}

abbrev pub presence_left : Bool → List (List ℕ) → List (List ℕ)
presence_left true norms = []
presence_left false norms = empty_key norms

-- the keys that are still to come: whether the empty key was given, what of a normal form has windows left, the normal forms behind it
abbrev pub keys_left : IndexKind → Bool → List ℕ → List (List ℕ) → List (List ℕ)
keys_left Equality given text norms = norms
keys_left Presence given text norms = presence_left given norms
keys_left Substrings given text norms = windows text ++ flat_map windows norms
