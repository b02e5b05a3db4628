use Rattle.std.proofs.Common.{◌≡◌, ◌++◌}
use Rattle.entries.specs.StoredEntries.{raws}
use Rattle.differences.specs.inner.Cuts.{texts}
use Rattle.differences.specs.inner.Norms.{with_norm_in}
use Rattle.differences.proofs.as_sets.push_equal.Given as goal

abbrev pub invariant-loop-value : goal.invariant-loop-value
invariant-loop-value l = record {
  can : (goal.iterator-loop-value).can_next l.value-iterator × (goal.iterator-loop-value).is_finite l.value-iterator;
  rest : texts l.found.items ++ raws (with_norm_in l.norms l.value-iterator) ≡ texts l.fn.found.items ++ raws (with_norm_in l.norms l.fn.values);
}
