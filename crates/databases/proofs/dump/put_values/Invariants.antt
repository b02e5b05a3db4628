use Rattle.std.proofs.Common.{◌≡◌, ◌++◌}
use Rattle.databases.specs.inner.Dumps.{values_text}
use Rattle.databases.proofs.dump.put_values.Given as goal

abbrev pub invariant-loop-value : goal.invariant-loop-value
invariant-loop-value l = record {
  can : (goal.iterator-loop-value).can_next l.value-iterator × (goal.iterator-loop-value).is_finite l.value-iterator;
  text : l.out.items ++ values_text l.fn.width l.name l.value-iterator ≡ l.fn.out.items ++ values_text l.fn.width l.name l.values;
}
