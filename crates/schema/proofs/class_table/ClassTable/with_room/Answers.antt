use Rattle.std.proofs.Common.{List, sym, ap, ◌∙◌}
use Rattle.schema.specs.declared.object_class.ObjectClass.{ObjectClass}
use Rattle.schema.specs.Classes.{class_of}
use Rattle.schema.proofs.ClassesFound.{no_class_found}
use Rattle.schema.proofs.class_table.ClassTable.with_room.Goals as goal

pub invariant_of-result : goal.invariant_of-result
invariant_of-result c =
    λ name. no_class_found c.in_ok-with_room.field-0 c.in_ok-with_room.ensures name ∙ ap (λ (cs : List ObjectClass). class_of cs name) (sym c.new.ensures)
