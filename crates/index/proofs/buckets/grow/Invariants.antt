use Rattle.std.proofs.Common.{◌≡◌, ◌-◌, ℕ, length, get_or}
use Rattle.std.specs.FinMap as finite
use Rattle.index.proofs.buckets.grow.Given as goal

abbrev pub invariant-loop-alloc : goal.invariant-loop-alloc
invariant-loop-alloc l = record {
  same : (place : ℕ) → get_or l.sets.items place finite.empty ≡ get_or l.fn.sets.items place finite.empty;
}

abbrev pub decreases-loop-alloc : goal.decreases-loop-alloc
decreases-loop-alloc l = l.len - length l.sets.items
