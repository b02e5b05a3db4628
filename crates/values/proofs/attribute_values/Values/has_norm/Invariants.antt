use Rattle.std.proofs.Common.{◌≡◌}
use Rattle.values.specs.Norms.{has_norm}
use Rattle.values.proofs.attribute_values.Values.has_norm.Given as goal

abbrev pub invariant-loop-value : goal.invariant-loop-value
invariant-loop-value l = record {
  can : (goal.iterator-loop-value).can_next l.value-iterator × (goal.iterator-loop-value).is_finite l.value-iterator;
  none : has_norm l.fn.norm l.fn.self ≡ has_norm l.fn.norm l.value-iterator;
}
