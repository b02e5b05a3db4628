use Rattle.std.proofs.lemmas.Result.{IfOk-from_err}
use Rattle.schema.proofs.settled.settle_class.Goals as goal

pub returns-in_err-allowed_by : goal.returns-in_err-allowed_by
returns-in_err-allowed_by c = IfOk-from_err _ _ c.from_residual-in_err-allowed_by.ensures.0
