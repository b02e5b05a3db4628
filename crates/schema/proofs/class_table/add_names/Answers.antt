use Rattle.std.proofs.lemmas.Grind.{common_steps}
use Rattle.std.proofs.Common.{arith}
use Rattle.std.proofs.lemmas.Result.{IfOk-from_err}
use Rattle.schema.proofs.class_table.add_names.Goals as goal

pub returns-in_err-add : goal.returns-in_err-add
returns-in_err-add c = IfOk-from_err _ _ c.from_residual.ensures.0

pub loop-name-preserved : goal.loop-name-preserved
loop-name-preserved c = grind (arith, common_steps)
