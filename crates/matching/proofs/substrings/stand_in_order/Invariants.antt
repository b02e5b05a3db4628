use Rattle.std.proofs.Common.{◌↔◌, drop}
use Rattle.matching.specs.inner.Places.{InOrder}
use Rattle.matching.proofs.substrings.stand_in_order.Given as goal

-- the pieces stand in order in the text just where those that are left do in the rest
abbrev pub invariant-loop-i : goal.invariant-loop-i
invariant-loop-i l = InOrder l.back l.pieces l.fn.text ↔ InOrder l.back (drop l.i l.pieces) l.rest
