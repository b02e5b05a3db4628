use Rattle.std.proofs.Common.{arith}
use Rattle.std.proofs.lemmas.Grind.{common_steps}
use Rattle.std.proofs.lemmas.Result.{IfOk-from_err}
use Rattle.paths.proofs.packing.push_step.Goals as goal

pub returns-in_err-push_pair : goal.returns-in_err-push_pair
returns-in_err-push_pair c = IfOk-from_err _ _ c.from_residual.ensures.0

pub loop-t-preserved : goal.loop-t-preserved
loop-t-preserved c = grind (arith, common_steps)

pub returns-in_err-push : goal.returns-in_err-push
returns-in_err-push c = IfOk-from_err _ _ c.from_residual-in_err-push.ensures.0
