use Rattle.std.proofs.Common.{inl, inr}
use Rattle.matching.proofs.Stretches.{loop_found, loop_none, loop_last}
use Rattle.matching.proofs.substrings.stand_in_order.Goals as goal
use Rattle.matching.proofs.substrings.stand_in_order.Goals.{else-not-back-via-then-not-back+else-i-pieces, else-not-back-via-else-not-back}

pub returns-then-i-pieces : goal.returns-then-i-pieces
returns-then-i-pieces c =
    loop_last _ c.args.back c.args.pieces.now c.loop-i.i c.index-pieces-i.result c.as_slice.result.now c.loop-i.rest.now c.ends_in.result c.loop-i-test.true c.index-pieces-i.is
    c.as_slice.ensures c.if-not-back.true c.if-i-pieces.true c.ends_in.ensures c.loop-i.invariant

pub returns-in-None : goal.returns-in-None
returns-in-None c = (
  λ no. absurd cc,
  λ a. absurd (loop_none _ c.args.back c.args.pieces.now c.loop-i.i c.index-pieces-i.result c.as_slice-in-loop-i.result.now c.loop-i.rest.now c.loop-i-test.true c.index-pieces-i.is
      c.as_slice-in-loop-i.ensures c.in-None.ensures c.loop-i.invariant a),
)

pub loop-i-preserved : goal.loop-i-preserved
loop-i-preserved c =
    loop_found _ c.args.back c.args.pieces.now c.loop-i.i c.index-pieces-i.result c.as_slice-in-loop-i.result.now c.loop-i.rest.now c.in-Some.after.now c.loop-i-test.true c.index-pieces-i.is
    c.as_slice-in-loop-i.ensures
    (elim c.else-not-back.branch [
      | else-not-back-via-then-not-back+else-i-pieces w ↦ inr w.if-i-pieces.false
      | else-not-back-via-else-not-back w ↦ inl w.if-not-back.false
    ])
    c.in-Some.ensures c.loop-i.invariant
