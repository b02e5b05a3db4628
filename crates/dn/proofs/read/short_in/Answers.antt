use Rattle.std.proofs.Common.{arith}
use Rattle.std.proofs.lemmas.Grind.{common_steps}
use Rattle.dn.proofs.read.short_in.Goals as goal

pub returns-in_err-ava-clause-exact : goal.returns-in_err-ava-clause-exact
returns-in_err-ava-clause-exact c = grind (arith, common_steps)
