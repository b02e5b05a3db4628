use Rattle.std.proofs.Common.{◌≡◌, ◌+◌, length}
use Rattle.reasons.proofs.explain_entries.count_of.Given as goal

abbrev pub invariant-loop-value : goal.invariant-loop-value
invariant-loop-value l = record {
  can : (goal.iterator-loop-value).can_next l._value-iterator × (goal.iterator-loop-value).is_finite l._value-iterator;
  all : l.count + length l._value-iterator ≡ length l.fn.values;
}
