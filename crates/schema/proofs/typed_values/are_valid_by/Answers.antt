use Rattle.std.proofs.lemmas.Grind.{common_steps}
use Rattle.std.proofs.Common.{arith}
use Rattle.std.proofs.lemmas.Result.{IfOk-from_err}
use Rattle.schema.proofs.typed_values.are_valid_by.Goals as goal

pub returns-in_err-is_valid_by : goal.returns-in_err-is_valid_by
returns-in_err-is_valid_by c = IfOk-from_err _ _ c.from_residual.ensures.0

pub loop-text-preserved : goal.loop-text-preserved
loop-text-preserved c = grind (arith, common_steps)

pub returns-then-not-branch : goal.returns-then-not-branch
returns-then-not-branch c = grind (arith, common_steps)

pub returns : goal.returns
returns c = grind (arith, common_steps)
