use Rattle.std.proofs.Common.{◌≡◌}
use Rattle.entries.specs.StoredEntries.{raws}
use Rattle.differences.proofs.alike.are_same_values.Given as goal

-- if what is left is the same, all is
abbrev pub invariant-loop-value : goal.invariant-loop-value
invariant-loop-value l = record {
  can : (goal.iterator-loop-value).can_next l.value-iterator × (goal.iterator-loop-value).is_finite l.value-iterator;
  so_far : raws l.value-iterator ≡ raws l.others → raws l.before ≡ raws l.after;
}
