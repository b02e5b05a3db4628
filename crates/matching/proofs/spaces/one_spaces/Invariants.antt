use Rattle.std.proofs.Common.{◌≡◌, ◌++◌, drop}
use Rattle.matching.specs.Forms.{one_spaces}
use Rattle.matching.proofs.spaces.one_spaces.Given as goal

abbrev pub invariant-loop-i : goal.invariant-loop-i
invariant-loop-i l = l.out.items ++ one_spaces (drop l.i l.text) ≡ one_spaces l.text
