use Rattle.std.proofs.Common.{◌≡◌, ◌≤◌, drop}
use Rattle.differences.specs.inner.Cuts.{place_in, moved_by, texts}
use Rattle.differences.proofs.value_changes.place_from.Given as goal

abbrev pub invariant-loop-i : goal.invariant-loop-i
invariant-loop-i l = record {
  low : l.from ≤ l.i;
  so_far : moved_by l.from (place_in l.value (drop l.from (texts l.values))) ≡ moved_by l.i (place_in l.value (drop l.i (texts l.values)));
}
