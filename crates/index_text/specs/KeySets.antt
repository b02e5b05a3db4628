-- Keys, each with its members: the numbers of the entries that have it.
use Rattle.std.specs.Prelude.{ℕ, List, unwrap_or}
use Rattle.std.specs.Coded.{Coded, coded×, coded_ℕ, coded_list}
use Rattle.std.specs.Cmp.Lexicographic.{slice_cmp}
use Rattle.std.specs.Ordering.{nat_cmp}
use Rattle.std.specs.Map.{lookup}
use Rattle.std.specs.Str.{bytes_eq}
use Rattle.std.specs.FinMap as finite
use Rattle.std.specs.FinSet as set

abbrev pub Members : Type 0
Members = set.FinSet nat_cmp

-- keys with their members
abbrev pub SetsByKey : Type 0
SetsByKey = finite.FinMap (slice_cmp nat_cmp) Members

abbrev pub members_code : Coded Members
members_code = set.code coded_ℕ

-- the members of a key; none where it isn't there
abbrev pub members_in : SetsByKey → List ℕ → Members
members_in sets key = unwrap_or (finite.get sets key) set.empty

-- a key and its members
abbrev pub Row : Type 0
Row = List ℕ × Members

abbrev pub rows_code : Coded (List Row)
rows_code = coded_list (coded× (coded_list coded_ℕ) members_code)

-- the same, of keys in a list
abbrev pub members_at : List Row → List ℕ → Members
members_at rows key = unwrap_or (lookup (bytes_eq key) rows) set.empty
