use Rattle.std.proofs.lemmas.Result.{IfOk-from_err}
use Rattle.tree.proofs.planner.plan.Goals as goal

pub returns-in_err-change-clause-of : goal.returns-in_err-change-clause-of
returns-in_err-change-clause-of c = IfOk-from_err _ _ c.from_residual.ensures.0

pub returns-in_err-change-clause-path : goal.returns-in_err-change-clause-path
returns-in_err-change-clause-path c = IfOk-from_err _ _ c.from_residual.ensures.0
