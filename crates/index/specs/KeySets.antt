-- Keys with their members: the rows of them, and a number that comes or goes.
use Rattle.std.specs.Prelude.{◌≡◌, ◌≢◌, ℕ, Bool, not, List, if◌then◌else◌, Result, IfOk, OnOk, OnErr}
use Rattle.std.specs.Coded.{Coded, coded_ℕ, coded_list}
use Rattle.std.specs.Cmp.Lexicographic.{slice_cmp}
use Rattle.std.specs.Ordering.{nat_cmp}
use Rattle.std.specs.List.{AllByRecursion}
use Rattle.std.specs.List.Sorted.{IsStrictlySortedBy}
use Rattle.std.specs.Map.{keys_of}
use Rattle.std.specs.Str.{bytes_eq}
use Rattle.std.specs.FinMap as finite
use Rattle.std.specs.FinSet as set
use Rattle.index_text.specs.KeySets.{Members, SetsByKey, Row, members_code, members_in, members_at}

abbrev pub sets_code : Coded SetsByKey
sets_code = finite.code (coded_list coded_ℕ) members_code

-- the keys that have a member, by their bytes, each with its members
pub record AreRowsOf (sets : SetsByKey) (rows : List Row) : Type 0 where
  pub rise : IsStrictlySortedBy (slice_cmp nat_cmp) (keys_of rows)
  pub full : AllByRecursion (λ row. row.1 ≢ set.empty) rows
  pub exact : (key : List ℕ) → members_at rows key ≡ members_in sets key

-- ---- one number

-- It was to come under a key. It did, and the answer is whether it is new there; or the members are what they were.
pub record Puts {E : Type 0} (key : List ℕ) (number : ℕ) (old new : List ℕ → Members) (result : Result Bool E) : Type 0 where
  pub is_new : IfOk result (λ b. b ≡ not (set.contains (old key) number))
  pub came : OnOk result ((q : List ℕ) → new q ≡ (if bytes_eq key q then set.insert (old q) number else old q))
  pub stayed : OnErr result ((q : List ℕ) → new q ≡ old q)

-- It went from a key, and the answer is whether it was there.
pub record Takes (key : List ℕ) (number : ℕ) (old new : List ℕ → Members) (result : Bool) : Type 0 where
  pub was : result ≡ set.contains (old key) number
  pub went : (q : List ℕ) → new q ≡ (if bytes_eq key q then set.remove (old q) number else old q)
