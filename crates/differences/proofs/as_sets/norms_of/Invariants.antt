use Rattle.std.proofs.Common.{◌≡◌, ◌||◌, List, ℕ}
use Rattle.std.specs.BTreeSet.{contains}
use Rattle.std.specs.Cmp.Lexicographic.{slice_cmp}
use Rattle.std.specs.Ordering.{nat_cmp}
use Rattle.values.specs.Norms.{has_norm}
use Rattle.differences.proofs.as_sets.norms_of.Given as goal

abbrev pub invariant-loop-value : goal.invariant-loop-value
invariant-loop-value l = record {
  can : (goal.iterator-loop-value).can_next l.value-iterator × (goal.iterator-loop-value).is_finite l.value-iterator;
  each : (n : List ℕ) → (contains (slice_cmp nat_cmp) l.norms n || has_norm n l.value-iterator) ≡ has_norm n l.fn.values;
}
