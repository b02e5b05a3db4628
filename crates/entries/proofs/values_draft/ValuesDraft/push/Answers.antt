use Rattle.std.proofs.lemmas.Result.{IfOk-from_err}
use Rattle.entries.proofs.values_draft.ValuesDraft.push.Goals as goal

pub returns-in_err-search-clause-is_new : goal.returns-in_err-search-clause-is_new
returns-in_err-search-clause-is_new c = IfOk-from_err _ _ c.from_residual.ensures.0

pub returns-in_err-search-clause-values : goal.returns-in_err-search-clause-values
returns-in_err-search-clause-values c = IfOk-from_err _ _ c.from_residual.ensures.0
