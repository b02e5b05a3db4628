use Rattle.reasons.specs.Flaws.{HasFlaw, checks_of}
use Rattle.reasons.proofs.Answering.{one_first}
use Rattle.reasons.proofs.Told.{refused, allowed}
use Rattle.reasons.proofs.laws.a_refusal_is_of_the_first_flaw.Goals as goal

pub returns-clause-refused : goal.returns-clause-refused
returns-clause-refused c conf mode d r code = refused conf mode d r code

pub returns-clause-allowed : goal.returns-clause-allowed
returns-clause-allowed c conf mode d r = allowed conf mode d r

pub returns-clause-one : goal.returns-clause-one
returns-clause-one c conf mode d r f g = one_first (HasFlaw conf mode d r) (checks_of r) f g
