use Rattle.std.proofs.Common.{◌≡◌, ◌+◌, ◌++◌, length}
use Rattle.entries.specs.inner.ValuesDrafts.{left_from}
use Rattle.entries.proofs.values_draft.left_from.Given as goal

abbrev pub invariant-loop-value : goal.invariant-loop-value
invariant-loop-value l = record {
  can : (goal.iterator-loop-value).can_next l.value-iterator × (goal.iterator-loop-value).is_finite l.value-iterator;
  rest : l.left ++ left_from l.places.since l.place l.value-iterator ≡ left_from l.places.since 0 l.values;
  place : l.place + length l.value-iterator ≡ l.places.count;
}
