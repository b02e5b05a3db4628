use Rattle.std.proofs.Common.{◌≡◌, ◌++◌}
use Rattle.checks.specs.inner.Holders.{shared_by}
use Rattle.checks.proofs.sharing.push_shared.Given as goal

abbrev pub invariant-loop-value : goal.invariant-loop-value
invariant-loop-value l = record {
  can : (goal.iterator-loop-value).can_next l.value-iterator × (goal.iterator-loop-value).is_finite l.value-iterator;
  so_far : l.found.items ++ shared_by l.holders l.path l.value-iterator ≡ l.fn.found.items ++ shared_by l.holders l.path l.values;
}
