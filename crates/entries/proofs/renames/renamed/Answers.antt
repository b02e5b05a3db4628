use Rattle.std.proofs.lemmas.Result.{IfOk-from_err, err_from_is_err_and}
use Rattle.entries.proofs.renames.renamed.Goals as goal

pub returns-in_err-attrs-clause-made : goal.returns-in_err-attrs-clause-made
returns-in_err-attrs-clause-made c = IfOk-from_err _ _ c.from_residual.ensures.0

pub returns-in_err-attrs-clause-gives : goal.returns-in_err-attrs-clause-gives
returns-in_err-attrs-clause-gives c = let p = err_from_is_err_and c.from_residual.result c.from_residual.ensures.1 in rw (p.1, p.2) tt
