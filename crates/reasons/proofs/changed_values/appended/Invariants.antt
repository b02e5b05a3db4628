use Rattle.std.proofs.Common.{◌≡◌, ◌++◌}
use Rattle.reasons.proofs.changed_values.appended.Given as goal

abbrev pub invariant-loop-value : goal.invariant-loop-value
invariant-loop-value l = record {
  can : (goal.iterator-loop-value).can_next l.value-iterator × (goal.iterator-loop-value).is_finite l.value-iterator;
  rest : l.values ++ l.value-iterator ≡ l.fn.values ++ l.fn.more;
}
