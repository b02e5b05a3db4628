use Rattle.std.proofs.lemmas.Result.{IfOk-from_err}
use Rattle.candidates.proofs.asked.push_windows.Goals as goal

pub returns-in_err-push_key : goal.returns-in_err-push_key
returns-in_err-push_key c = IfOk-from_err _ _ c.from_residual.ensures.0
