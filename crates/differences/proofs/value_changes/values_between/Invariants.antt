use Rattle.std.proofs.Common.{◌≡◌, ◌≤◌, drop, length}
use Rattle.differences.specs.EntryChanges.{values_between}
use Rattle.differences.specs.inner.Cuts.{behind, texts}
use Rattle.differences.proofs.value_changes.values_between.Given as goal

abbrev pub invariant-loop-k : goal.invariant-loop-k
invariant-loop-k l = record {
  within : l.at ≤ length l.before;
  so_far : behind (texts l.gone.items) (values_between (drop l.at (texts l.before)) (drop l.k (texts l.after))) ≡ values_between (texts l.before) (texts l.after);
}
