use Rattle.std.proofs.Common.{arith}
use Rattle.std.proofs.lemmas.Grind.{common_steps}
use Rattle.dn.specs.inner.Octets.{step}
use Rattle.dn.proofs.value.step.Goals as goal

pub returns-then-may_stand-clause-next : goal.returns-then-may_stand-clause-next
unfolding step
returns-then-may_stand-clause-next c = grind (arith, common_steps)

pub returns-in-Some-clause-next : goal.returns-in-Some-clause-next
unfolding step
returns-in-Some-clause-next c = grind (arith, common_steps)

pub returns-in-Some-hex-clause-next : goal.returns-in-Some-hex-clause-next
unfolding step
returns-in-Some-hex-clause-next c = grind (arith, common_steps)

pub returns-in-None-clause-next : goal.returns-in-None-clause-next
unfolding step
returns-in-None-clause-next c = grind (arith, common_steps)

pub returns-in-None-hex-clause-next : goal.returns-in-None-hex-clause-next
unfolding step
returns-in-None-hex-clause-next c = grind (arith, common_steps)
