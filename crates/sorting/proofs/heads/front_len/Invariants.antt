use Rattle.std.proofs.Common.{length}
use Rattle.sorting.specs.inner.Heads.{IsSoFar}
use Rattle.sorting.proofs.heads.front_len.Given as goal

abbrev pub invariant-lines : goal.invariant-lines
invariant-lines l = IsSoFar l.fn.text l.stage l.first l.rest

abbrev pub decreases-lines : goal.decreases-lines
decreases-lines l = length l.rest
