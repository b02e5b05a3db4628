use Rattle.std.proofs.Common.{◌≡◌, length}
use Rattle.checks.specs.NearNames.{are_near}
use Rattle.checks.proofs.near_names.are_near.Given as goal

abbrev pub invariant-letters : goal.invariant-letters
invariant-letters l = are_near l.ours l.theirs ≡ are_near l.fn.one l.fn.other

abbrev pub decreases-letters : goal.decreases-letters
decreases-letters l = length l.ours
