use Rattle.std.proofs.lemmas.Result.{IfOk-from_err}
use Rattle.tree.proofs.tree.Tree.has_entry_and_parent.Goals as goal

pub returns-in_err-parent-clause-entry : goal.returns-in_err-parent-clause-entry
returns-in_err-parent-clause-entry c = IfOk-from_err _ _ c.from_residual.ensures.0

pub returns-in_err-parent-clause-parent : goal.returns-in_err-parent-clause-parent
returns-in_err-parent-clause-parent c = IfOk-from_err _ _ c.from_residual.ensures.0
