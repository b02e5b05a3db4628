use Rattle.std.proofs.Common.{◌≡◌, ◌≤◌, ◌-◌, [], length}
use Rattle.std.specs.List.{AllByRecursion}
use Rattle.values.proofs.name_index.empty_buckets.Given as goal

abbrev pub invariant-loop-alloc : goal.invariant-loop-alloc
invariant-loop-alloc l = record {
  count : length l.buckets.items ≤ l.count;
  none : AllByRecursion (λ b. b ≡ []) l.buckets.items;
}

abbrev pub decreases-loop-alloc : goal.decreases-loop-alloc
decreases-loop-alloc l = l.count - length l.buckets.items
