use Rattle.std.proofs.Common.{List, ap, ◌∙◌}
use Rattle.schema.specs.declared.object_class.ObjectClass.{ObjectClass}
use Rattle.schema.specs.Classes.{class_of}
use Rattle.schema.proofs.ClassesFound.{found_is_known}
use Rattle.schema.proofs.class_table.ClassTable.class_of.Goals as goal

pub returns-clause-place : goal.returns-clause-place
returns-clause-place c =
    c.get.ensures ∙ c.self.invariant c.args.name.now ∙ ap (λ (cs : List ObjectClass). class_of cs c.args.name.now) c.self.view_is

pub returns-clause-known : goal.returns-clause-known
returns-clause-known c =
    found_is_known c.args.self.now c.args.name.now c.get.result (returns-clause-place c)
