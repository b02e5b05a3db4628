use Rattle.std.proofs.lemmas.Result.{IfOk-from_err}
use Rattle.candidates.proofs.filters.candidates.Goals as goal

pub returns-in_err-may-clause-may : goal.returns-in_err-may-clause-may
returns-in_err-may-clause-may g c = IfOk-from_err _ _ c.from_residual.ensures.0

pub returns-in_err-may-clause-may_not : goal.returns-in_err-may-clause-may_not
returns-in_err-may-clause-may_not g c = IfOk-from_err _ _ c.from_residual.ensures.0

pub returns-in_err-may_not-clause-may : goal.returns-in_err-may_not-clause-may
returns-in_err-may_not-clause-may g c = IfOk-from_err _ _ c.from_residual-in_err-may_not.ensures.0

pub returns-in_err-may_not-clause-may_not : goal.returns-in_err-may_not-clause-may_not
returns-in_err-may_not-clause-may_not g c = IfOk-from_err _ _ c.from_residual-in_err-may_not.ensures.0
