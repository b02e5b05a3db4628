use Rattle.std.proofs.Common.{◌∷◌, [], List, length, sym, ap, ◌∙◌, arith}
use Rattle.std.proofs.lemmas.List.{length-append}
use Rattle.values.specs.declared.types.AttributeType.{AttributeType}
use Rattle.values.specs.declared.name_index.NameEntry.{NameEntry}
use Rattle.values.specs.Tables.{number_of, or_if}
use Rattle.values.specs.Types.{names_of, is_named, type_of}
use Rattle.values.proofs.Tables.{numbers_more, type_more}
use Rattle.values.proofs.table.TypeTable.with.Goals as goal

pub invariant_of-result : goal.invariant_of-result
invariant_of-result c =
    let types : List AttributeType = c.self.inside.types in (
      omega (arith, ap length c.in_ok-push.ensures.ok, length-append types (c.args.new ∷ []), ap length c.self.view_is, c.requires),
      λ name.
          ap (λ (es : List NameEntry). number_of es name) c.in_ok-add_type.ensures
          ∙ numbers_more c.self.inside.numbers (names_of c.args.new) c.len.result name
          ∙ (λ j. or_if (c.self.invariant.1 name j) (is_named name c.args.new) (c.len.ensures j))
          ∙ sym (type_more types c.args.new name) ∙ ap (λ (ts : List AttributeType). type_of ts name) (sym c.in_ok-push.ensures.ok),
    )
