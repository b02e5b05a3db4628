use Rattle.std.proofs.lemmas.Result.{err_from_is_err_and}
use Rattle.tree.proofs.planner.Planner.upper_path.Goals as goal

pub returns-in_err-parent-in-None : goal.returns-in_err-parent-in-None
returns-in_err-parent-in-None c = let p = err_from_is_err_and c.from_residual.result c.from_residual.ensures.1 in rw (p.1, p.2) tt
