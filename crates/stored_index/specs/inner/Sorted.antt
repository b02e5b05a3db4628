-- Keys in order, each with its ranks.
use Rattle.std.specs.Prelude.{◌≢◌, List}
use Rattle.std.specs.FinSet as set
use Rattle.std.specs.List.{AllByRecursion}
use Rattle.std.specs.List.Sorted.{IsStrictlySortedBy}
use Rattle.std.specs.Cmp.Lexicographic.{slice_cmp}
use Rattle.std.specs.Ordering.{nat_cmp}
use Rattle.std.specs.Map.{keys_of}
use Rattle.index_text.specs.KeySets.{Row}

abbrev pub AreSorted : List Row → Type 0
AreSorted rows = IsStrictlySortedBy (slice_cmp nat_cmp) (keys_of rows)

-- each key has a rank
abbrev pub AreFull : List Row → Type 0
AreFull rows = AllByRecursion (λ row. row.1 ≢ set.empty) rows

-- the keys of a slot
abbrev pub AreKept : List Row → Type 0
AreKept rows = AreSorted rows × AreFull rows
