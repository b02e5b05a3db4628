use Rattle.std.proofs.lemmas.Grind.{common_steps}
use Rattle.std.proofs.Common.{arith}
use Rattle.std.proofs.lemmas.Result.{IfOk-from_err}
use Rattle.schema.proofs.rdns.step_down.Goals as goal

pub returns-in_err-norm-in-len1 : goal.returns-in_err-norm-in-len1
returns-in_err-norm-in-len1 c = IfOk-from_err _ _ c.from_residual.ensures.0

pub returns-in_err-rdn_key_of-in_default : goal.returns-in_err-rdn_key_of-in_default
returns-in_err-rdn_key_of-in_default c = IfOk-from_err _ _ c.from_residual-in_err-rdn_key_of-in_default.ensures.0

pub at-requires : goal.at-requires
at-requires c = grind (arith, common_steps)
