use Rattle.std.proofs.lemmas.Result.{IfOk-from_err}
use Rattle.tree.proofs.planner.Planner.rdn_in.Goals as goal

pub returns-in_err-typed_rdn-in-len1-clause-good : goal.returns-in_err-typed_rdn-in-len1-clause-good
returns-in_err-typed_rdn-in-len1-clause-good c = IfOk-from_err _ _ c.from_residual-in_err-typed_rdn-in-len1.ensures.0

pub returns-in_err-name-clause-good : goal.returns-in_err-name-clause-good
returns-in_err-name-clause-good c = IfOk-from_err _ _ c.from_residual.ensures.0
