use Rattle.std.proofs.Common.{◌≡◌, length}
use Rattle.checks.specs.IndexDifferences.{is_before}
use Rattle.checks.proofs.index_differences.is_before.Given as goal

abbrev pub invariant-bytes : goal.invariant-bytes
invariant-bytes l = is_before l.ours l.theirs ≡ is_before l.fn.one l.fn.other

abbrev pub decreases-bytes : goal.decreases-bytes
decreases-bytes l = length l.ours
