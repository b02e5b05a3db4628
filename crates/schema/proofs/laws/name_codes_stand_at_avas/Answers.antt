use Rattle.schema.proofs.AvaFaults.{faulty, fails, one_fault}
use Rattle.schema.proofs.laws.name_codes_stand_at_avas.Goals as goal

pub returns-clause-fault : goal.returns-clause-fault
returns-clause-fault c types n code = (faulty types n code, fails types n code)

pub returns-clause-one : goal.returns-clause-one
returns-clause-one c types n = one_fault types n
