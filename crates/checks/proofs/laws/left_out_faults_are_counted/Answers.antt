use Rattle.checks.proofs.FirstFaults.{first_is_told}
use Rattle.checks.proofs.LeftOutCounted.{each_is_counted}
use Rattle.checks.proofs.laws.left_out_faults_are_counted.Goals as goal

pub returns-clause-first : goal.returns-clause-first
returns-clause-first c = λ text f others more are. first_is_told text f others are.count

pub returns-clause-all : goal.returns-clause-all
returns-clause-all c = λ text found more are. each_is_counted text found are.count
