use Rattle.std.proofs.Common.{◌≡◌, ◌≤◌, ◌++◌}
use Rattle.differences.specs.inner.Cuts.{stretch, texts}
use Rattle.differences.proofs.value_changes.push_stretch.Given as goal

abbrev pub invariant-loop-i : goal.invariant-loop-i
invariant-loop-i l = record {
  low : l.from ≤ l.i;
  so_far : texts l.found.items ++ stretch l.i l.to (texts l.values) ≡ texts l.fn.found.items ++ stretch l.from l.to (texts l.values);
}
