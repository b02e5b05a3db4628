use Rattle.std.proofs.Common.{◌≡◌}
use Rattle.std.specs.List.{list_any}
use Rattle.filter.specs.Prepared.{matches}
use Rattle.filter.proofs.prepared_item.any_matches.Given as goal

abbrev pub invariant-loop-value : goal.invariant-loop-value
invariant-loop-value l = record {
  can : (goal.iterator-loop-value).can_next l.value-iterator × (goal.iterator-loop-value).is_finite l.value-iterator;
  none : list_any (λ v. matches l.fn.assertion v.norm) l.fn.values ≡ list_any (λ v. matches l.fn.assertion v.norm) l.value-iterator;
}
