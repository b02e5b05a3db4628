use Rattle.std.proofs.Common.{arith}
use Rattle.std.proofs.lemmas.Result.{IfOk-from_err}
use Rattle.std.proofs.lemmas.Grind.{common_steps}
use Rattle.tree.proofs.moves.moved_entries.Goals as goal

pub loop-path-preserved : goal.loop-path-preserved
loop-path-preserved c = grind (arith, common_steps)

pub push_reserved-requires : goal.push_reserved-requires
push_reserved-requires c = omega (arith, c.loop-path.invariant.len, c.loop-path.invariant.room, c.loop-path-test.true)

pub returns : goal.returns
returns c = grind (arith, common_steps)

pub returns-in_err-moved_path : goal.returns-in_err-moved_path
returns-in_err-moved_path c = IfOk-from_err _ _ c.from_residual-in_err-moved_path.ensures.0

pub returns-in_err-led : goal.returns-in_err-led
returns-in_err-led c = IfOk-from_err _ _ c.from_residual.ensures.0
