use Rattle.std.proofs.Common.{List, length, sym, ap, ◌∙◌, arith}
use Rattle.values.specs.declared.types.AttributeType.{AttributeType}
use Rattle.values.specs.Types.{type_of}
use Rattle.values.proofs.Tables.{none_found}
use Rattle.values.proofs.table.TypeTable.with_room.Goals as goal

pub invariant_of-result : goal.invariant_of-result
invariant_of-result c = (
  omega (arith, ap length c.new.ensures),
  λ name. none_found c.in_ok-with_room.field-0 c.in_ok-with_room.ensures name ∙ ap (λ (ts : List AttributeType). type_of ts name) (sym c.new.ensures),
)
