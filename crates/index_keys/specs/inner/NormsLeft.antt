-- The normal forms of an entry's values that are still to come.
use Rattle.std.specs.Prelude.{ℕ, List, [], ◌++◌, Option, Some, None}
use Rattle.values.specs.declared.types.AttributeType.{AttributeType}
use Rattle.values.specs.Values.{Value}
use Rattle.entries.specs.StoredEntries.{EntryAttribute}
use Rattle.index_keys.specs.StoredNorms.{norms_of, stored_norms}

-- those of an attribute that is in hand
abbrev pub norms_left : Option (List Value) → List (List ℕ)
norms_left None = []
norms_left (Some vs) = norms_of vs

-- those of the attribute in hand, and of the attributes behind it
abbrev pub norms_to_come : List AttributeType → ℕ → Option (List Value) → List EntryAttribute → List (List ℕ)
norms_to_come types t values attrs = norms_left values ++ stored_norms types attrs t
