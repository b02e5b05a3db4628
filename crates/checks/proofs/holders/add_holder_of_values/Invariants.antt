use Rattle.std.proofs.Common.{◌≡◌, ℕ, List, ◌++◌}
use Rattle.std.specs.List.{IsDistinct}
use Rattle.values.specs.Norms.{has_norm}
use Rattle.checks.specs.inner.Holders.{paths_at, have_same_norm}
use Rattle.checks.proofs.Holding.{once}
use Rattle.checks.proofs.holders.add_holder_of_values.Given as goal

abbrev pub invariant-loop-value : goal.invariant-loop-value
invariant-loop-value l = record {
  can : (goal.iterator-loop-value).can_next l.value-iterator × (goal.iterator-loop-value).is_finite l.value-iterator;
  distinct : IsDistinct have_same_norm l.value-iterator;
  so_far : (q : List ℕ) → paths_at l.holders q ++ once (has_norm q l.value-iterator) l.path ≡ paths_at l.fn.holders q ++ once (has_norm q l.values) l.path;
}
