use Rattle.std.proofs.lemmas.Result.{IfOk-from_err}
use Rattle.tree.proofs.names.Names.name_of.Goals as goal

pub returns-in_err-keep_above-clause-name : goal.returns-in_err-keep_above-clause-name
returns-in_err-keep_above-clause-name c = IfOk-from_err _ _ c.from_residual.ensures.0
