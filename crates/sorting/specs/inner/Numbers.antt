-- The numbers of names, in a map.
use Rattle.std.specs.Prelude.{◌≡◌, ℕ, List, Option, Some, None}
use Rattle.std.specs.BTreeMap.{BTreeMap, get}
use Rattle.std.specs.Cmp.Lexicographic.{slice_cmp}
use Rattle.std.specs.Ordering.{nat_cmp}
use Rattle.sorting.specs.Turns.{last_named}
use Rattle.sorting.specs.declared.normal_names.NormalName.{NormalName}

abbrev pub or_zero : Option ℕ → ℕ
or_zero None = 0
or_zero (Some n) = n

-- the number of this name, or 0 where it has none
abbrev pub number_at : BTreeMap (List ℕ) ℕ → List ℕ → ℕ
number_at m text = or_zero (get (slice_cmp nat_cmp) m text)

-- these are the numbers of the last with each name
abbrev pub AreLastNumbers : List (Option NormalName) → BTreeMap (List ℕ) ℕ → Type 0
AreLastNumbers names m = (text : List ℕ) → number_at m text ≡ last_named names text
