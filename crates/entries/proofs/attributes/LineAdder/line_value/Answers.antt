use Rattle.std.proofs.lemmas.Result.{IfOk-from_err}
use Rattle.entries.proofs.attributes.LineAdder.line_value.Goals as goal

pub returns-in_err-value-clause-normal : goal.returns-in_err-value-clause-normal
returns-in_err-value-clause-normal c = IfOk-from_err _ _ c.from_residual.ensures.0

pub returns-in_err-value-clause-known : goal.returns-in_err-value-clause-known
returns-in_err-value-clause-known c = IfOk-from_err _ _ c.from_residual.ensures.0
