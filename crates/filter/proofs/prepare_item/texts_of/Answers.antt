use Rattle.std.proofs.Common.{arith}
use Rattle.std.proofs.lemmas.Grind.{common_steps}
use Rattle.std.proofs.lemmas.Result.{IfOk-from_err}
use Rattle.filter.proofs.prepare_item.texts_of.Goals as goal

pub returns-in_err-push : goal.returns-in_err-push
returns-in_err-push c = IfOk-from_err _ _ c.from_residual-in_err-push.ensures.0

pub loop-piece-preserved : goal.loop-piece-preserved
loop-piece-preserved c = grind (arith, common_steps)

pub returns-in_err-push_some-2 : goal.returns-in_err-push_some-2
returns-in_err-push_some-2 c = IfOk-from_err _ _ c.from_residual-in_err-push_some-2.ensures.0

pub returns : goal.returns
returns c = grind (arith, common_steps)
