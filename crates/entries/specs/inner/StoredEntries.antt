-- Entries as they are stored: each value with its normal form.
use Rattle.std.specs.Prelude.{◌≡◌, ℕ, List, Option, Some, None}
use Rattle.std.specs.BTreeSet.{BTreeSet, contains}
use Rattle.values.specs.Norms.{has_norm}
use Rattle.paths.specs.Paths.{Pair, pair_cmp}
use Rattle.entries.specs.Entries.{values_of}
use Rattle.entries.specs.StoredEntries.{EntryAttribute}

-- the set has the normal form of each value, with its type, and no other
pub record AreNormsOf (norms : BTreeSet Pair) (attrs : List EntryAttribute) : Type 0 where
  pub each : (t : ℕ) (norm : List ℕ) → contains pair_cmp norms (t, norm) ≡ has_norm norm (values_of attrs t)

-- the same, where such a set is kept
abbrev pub HasNorms : Option (BTreeSet Pair) → List EntryAttribute → Type 0
HasNorms None attrs = Unit {0}
HasNorms (Some norms) attrs = AreNormsOf norms attrs
