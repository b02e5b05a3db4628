-- Normal forms of values, in a set.
use Rattle.std.specs.Prelude.{◌≡◌, ℕ, not, List}
use Rattle.std.specs.List.{filter}
use Rattle.std.specs.BTreeSet.{BTreeSet, contains}
use Rattle.std.specs.Cmp.Lexicographic.{slice_cmp}
use Rattle.std.specs.Ordering.{nat_cmp}
use Rattle.values.specs.Norms.{has_norm}
use Rattle.values.specs.Values.{Value}

abbrev pub Norms : Type 0
Norms = BTreeSet (List ℕ)

-- they are those of these values
pub record HasNormsOf (norms : Norms) (vs : List Value) : Type 0 where
  pub each : (norm : List ℕ) → contains (slice_cmp nat_cmp) norms norm ≡ has_norm norm vs

abbrev pub with_norm_in : Norms → List Value → List Value
with_norm_in norms vs = filter (λ v. contains (slice_cmp nat_cmp) norms v.norm) vs

abbrev pub without_norm_in : Norms → List Value → List Value
without_norm_in norms vs = filter (λ v. not (contains (slice_cmp nat_cmp) norms v.norm)) vs
