use Rattle.definitions.proofs.TypesRead.{type_found, type_only}
use Rattle.definitions.proofs.laws.spelled_types_are_read.Goals as goal

pub returns-clause-only : goal.returns-clause-only
returns-clause-only c = type_only

pub returns-clause-found : goal.returns-clause-found
returns-clause-found c = type_found
