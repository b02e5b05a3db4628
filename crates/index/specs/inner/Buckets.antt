-- Keys in buckets: the first byte and the second one say in which, and buckets rise as their keys do.
use Rattle.std.specs.Prelude.{◌≡◌, ◌≢◌, ℕ, ◌+◌, ◌-◌, ◌*◌, min, List, [], ◌∷◌, ◌++◌, Option, None, Some, slice_index_or}
use Rattle.std.specs.FinMap as finite
use Rattle.std.specs.FinSet as set
use Rattle.dense_sets.specs.declared.key_set.KeySet.{KeySet}
use Rattle.index_text.specs.KeySets.{Members, SetsByKey, Row, members_in}
use Rattle.index.specs.declared.short_key.ShortKey.{ShortKey}
use Rattle.index.specs.inner.StoredSets.{short_rows}

-- by the byte behind the first: one for each digit and one for each small letter, and those for what is below, between and above
abbrev pub side : List ℕ → ℕ
side [] = 0
side (b ∷ rest) = min (b - 47) 11 + min (b - 96) 27

abbrev pub bucket_of : List ℕ → ℕ
bucket_of [] = 0
bucket_of (a ∷ rest) = a * 40 + side rest

-- no key has an empty set
pub record IsFull (sets : SetsByKey) : Type 0 where
  pub full : (key : List ℕ) → finite.get sets key ≢ Some set.empty

-- what a bucket at a place holds
pub record IsBucket (place : ℕ) (sets : SetsByKey) : Type 0 where
  pub full : IsFull sets
  pub own : (key : List ℕ) → bucket_of key ≢ place → members_in sets key ≡ set.empty

pub record AreBuckets (buckets : List SetsByKey) : Type 0 where
  pub each : (place : ℕ) → IsBucket place (slice_index_or buckets place finite.empty)

-- the members of a key, in its bucket
abbrev pub members_within : List SetsByKey → List ℕ → Members
members_within buckets key = members_in (slice_index_or buckets (bucket_of key) finite.empty) key

-- the rows of all buckets, one bucket after the other
abbrev pub all_rows : List SetsByKey → List Row
all_rows [] = []
all_rows (b ∷ bs) = finite.entries b ++ all_rows bs

abbrev pub gathered : List SetsByKey → SetsByKey
gathered buckets = finite.from_entries (all_rows buckets)

-- ---- what is still to come of them: of a bucket, and of those behind it
abbrev pub in_hand : Option (List (ShortKey 4 × KeySet)) → List Row
in_hand None = []
in_hand (Some es) = short_rows 4 es
