use Rattle.std.proofs.lemmas.Result.{IfOk-from_err}
use Rattle.tree.proofs.moves.moved_path.Goals as goal

pub returns-in_err-behind : goal.returns-in_err-behind
returns-in_err-behind c = IfOk-from_err _ _ c.from_residual.ensures.0
