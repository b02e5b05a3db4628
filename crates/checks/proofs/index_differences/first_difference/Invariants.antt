use Rattle.std.proofs.Common.{◌≡◌, [], map, length}
use Rattle.checks.specs.IndexDifferences.{first_difference}
use Rattle.checks.proofs.index_differences.first_difference.Given as goal

abbrev pub invariant-lines : goal.invariant-lines
invariant-lines l =
    first_difference l.slot (map (λ k. k.now) l.ours) (map (λ k. k.now) l.theirs) ≡ first_difference [] (map (λ k. k.now) l.fn.one) (map (λ k. k.now) l.fn.other)

abbrev pub decreases-lines : goal.decreases-lines
decreases-lines l = length l.ours
