use Rattle.std.proofs.lemmas.Grind.{common_steps}
use Rattle.std.proofs.Common.{arith}
use Rattle.std.proofs.lemmas.Result.{IfOk-from_err}
use Rattle.schema.proofs.derived.Derived.of.Goals as goal

pub returns-in_err-settled : goal.returns-in_err-settled
returns-in_err-settled c = IfOk-from_err _ _ c.from_residual-in_err-settled.ensures.0

pub returns-in_err-suffix_norm : goal.returns-in_err-suffix_norm
returns-in_err-suffix_norm c = IfOk-from_err _ _ c.from_residual-in_err-suffix_norm.ensures.0

pub returns-in_err-suffix_text : goal.returns-in_err-suffix_text
returns-in_err-suffix_text c = IfOk-from_err _ _ c.from_residual-in_err-suffix_text.ensures.0

pub returns : goal.returns
returns c = grind (arith, common_steps)
