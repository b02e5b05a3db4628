use Rattle.std.proofs.lemmas.Result.{IfOk-from_err}
use Rattle.tree.proofs.planner.Planner.rename_there.Goals as goal

pub returns-in_err-upper-clause-change : goal.returns-in_err-upper-clause-change
returns-in_err-upper-clause-change c = IfOk-from_err _ _ c.from_residual-in_err-upper.ensures.0

pub returns-in_err-new-clause-change : goal.returns-in_err-new-clause-change
returns-in_err-new-clause-change c = IfOk-from_err _ _ c.from_residual.ensures.0

pub rename_below-requires-clause-good : goal.rename_below-requires-clause-good
rename_below-requires-clause-good c = c.in_ok-new.ensures.good

pub returns-clause-change : goal.returns-clause-change
returns-clause-change c = c.rename_below.ensures.change
