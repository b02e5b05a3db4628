use Rattle.std.proofs.Common.{List, sym, ap, ◌∙◌}
use Rattle.values.specs.declared.name_index.NameEntry.{NameEntry}
use Rattle.values.specs.Tables.{number_of, or_if}
use Rattle.values.proofs.Tables.{numbers_more}
use Rattle.schema.specs.declared.object_class.ObjectClass.{ObjectClass}
use Rattle.schema.specs.Classes.{class_names, is_class_named, class_of}
use Rattle.schema.proofs.ClassesFound.{class_more}
use Rattle.schema.proofs.class_table.ClassTable.with.Goals as goal

pub invariant_of-result : goal.invariant_of-result
invariant_of-result c =
    let classes : List ObjectClass = c.self.inside.classes in
    λ name.
    ap (λ (es : List NameEntry). number_of es name) c.in_ok-add_class.ensures
    ∙ numbers_more c.self.inside.numbers (class_names c.args.class) c.len.result name
    ∙ (λ j. or_if (c.self.invariant name j) (is_class_named name c.args.class) (c.len.ensures j))
    ∙ sym (class_more classes c.args.class name) ∙ ap (λ (cs : List ObjectClass). class_of cs name) (sym c.in_ok-push.ensures.ok)
