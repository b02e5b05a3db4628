use Rattle.dir_conf.proofs.TypeFlaws.{TypesRead}
use Rattle.dir_conf.proofs.ClassFlaws.{ClassesRead}
use Rattle.dir_conf.proofs.ConfFaultsStand.{conf_faulty, conf_fails, one_fault}
use Rattle.dir_conf.proofs.laws.conf_faults_stand_at_lines.Goals as goal

pub returns-clause-fault : goal.returns-clause-fault
returns-clause-fault c =
    let types : TypesRead = (c.spelled_types_are_read.ensures.only, c.spelled_types_are_read.ensures.found) in
    let classes : ClassesRead = (c.spelled_classes_are_read.ensures.only, c.spelled_classes_are_read.ensures.found) in
    λ text line kind. (conf_faulty types classes text line kind, conf_fails types classes text line kind)

pub returns-clause-one : goal.returns-clause-one
returns-clause-one c =
    one_fault (c.spelled_types_are_read.ensures.only, c.spelled_types_are_read.ensures.found) (c.spelled_classes_are_read.ensures.only, c.spelled_classes_are_read.ensures.found)
