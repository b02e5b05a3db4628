use Rattle.definitions.proofs.TypesReordered.{types_reordered}
use Rattle.definitions.proofs.ClassesReordered.{classes_reordered}
use Rattle.definitions.proofs.laws.fields_stand_in_any_order.Goals as goal

pub returns-clause-types : goal.returns-clause-types
returns-clause-types c = λ text other oid fields others form also h. types_reordered text other oid fields others form also h.moved h.extensions

pub returns-clause-classes : goal.returns-clause-classes
returns-clause-classes c = λ text other oid fields others form also h. classes_reordered text other oid fields others form also h.moved h.extensions
