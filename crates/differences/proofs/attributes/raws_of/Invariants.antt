use Rattle.std.proofs.Common.{◌≡◌, ◌++◌}
use Rattle.entries.specs.StoredEntries.{raws}
use Rattle.differences.specs.inner.Cuts.{texts}
use Rattle.differences.proofs.attributes.raws_of.Given as goal

abbrev pub invariant-loop-value : goal.invariant-loop-value
invariant-loop-value l = record {
  can : (goal.iterator-loop-value).can_next l.value-iterator × (goal.iterator-loop-value).is_finite l.value-iterator;
  so_far : texts l.found.items ++ raws l.value-iterator ≡ raws l.values;
}
