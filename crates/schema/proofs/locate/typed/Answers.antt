use Rattle.schema.proofs.WaysOut.{gives_nothing}
use Rattle.std.proofs.lemmas.Result.{IfOk-from_err}
use Rattle.schema.proofs.locate.typed.Goals as goal

pub returns-in_err-rdns-clause-keys : goal.returns-in_err-rdns-clause-keys
returns-in_err-rdns-clause-keys c = IfOk-from_err _ _ c.from_residual.ensures.0

pub returns-in_err-path-clause-keys : goal.returns-in_err-path-clause-keys
returns-in_err-path-clause-keys c = IfOk-from_err _ _ c.from_residual-in_err-path.ensures.0

pub returns-in_err-path-clause-rdns : goal.returns-in_err-path-clause-rdns
returns-in_err-path-clause-rdns c = gives_nothing _ c.from_residual-in_err-path.result _ c.from_residual-in_err-path.ensures.1
