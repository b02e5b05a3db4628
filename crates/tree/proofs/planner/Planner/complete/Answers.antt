use Rattle.std.proofs.lemmas.Result.{IfOk-from_err}
use Rattle.tree.proofs.planner.Planner.complete.Goals as goal

pub returns-in_err-add_rdn-clause-made : goal.returns-in_err-add_rdn-clause-made
returns-in_err-add_rdn-clause-made c = IfOk-from_err _ _ c.from_residual.ensures.0

pub returns-in_err-has_its_classes-clause-made : goal.returns-in_err-has_its_classes-clause-made
returns-in_err-has_its_classes-clause-made c = IfOk-from_err _ _ c.from_residual-in_err-has_its_classes.ensures.0
