use Rattle.std.proofs.Common.{◌≡◌, drop}
use Rattle.differences.specs.Differences.{same_spelling}
use Rattle.differences.proofs.rdns.is_spelled_alike.Given as goal

abbrev pub invariant-loop-i : goal.invariant-loop-i
invariant-loop-i l = same_spelling (drop l.i l.left) (drop l.i l.right) ≡ same_spelling l.fn.left l.fn.right
