use Rattle.definitions.proofs.ClassesRead.{class_found, class_only}
use Rattle.definitions.proofs.laws.spelled_classes_are_read.Goals as goal

pub returns-clause-only : goal.returns-clause-only
returns-clause-only c = class_only

pub returns-clause-found : goal.returns-clause-found
returns-clause-found c = class_found
