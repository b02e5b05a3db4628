use Rattle.std.proofs.Common.{arith}
use Rattle.std.proofs.lemmas.Result.{IfOk-from_err}
use Rattle.std.proofs.lemmas.Grind.{common_steps}
use Rattle.tree.proofs.names.name_below.Goals as goal

pub returns : goal.returns
returns c = grind (arith, common_steps)

pub returns-in_err-put_rdn : goal.returns-in_err-put_rdn
returns-in_err-put_rdn c = IfOk-from_err _ _ c.from_residual-in_err-put_rdn.ensures.0

pub returns-in_err-text : goal.returns-in_err-text
returns-in_err-text c = IfOk-from_err _ _ c.from_residual.ensures.0

pub returns-in_err-push : goal.returns-in_err-push
returns-in_err-push c = IfOk-from_err _ _ c.from_residual-in_err-push.ensures.0

pub returns-in_err-extend_from_slice : goal.returns-in_err-extend_from_slice
returns-in_err-extend_from_slice c = IfOk-from_err _ _ c.from_residual-in_err-extend_from_slice.ensures.0
