use Rattle.std.proofs.Common.{◌≡◌, drop}
use Rattle.filter_text.specs.Spells.{views}
use Rattle.filter.specs.Prepared.{prepared_filters}
use Rattle.filter.proofs.PreparedOperands.{prepared_operands}
use Rattle.filter.proofs.preparing.+operands.Given as goal

abbrev pub invariant-prepare_operands-loop-operand : goal.invariant-prepare_operands-loop-operand
invariant-prepare_operands-loop-operand l = prepared_operands l.conf.types l.prepared.items (drop l.operand-index l.operands) ≡ prepared_filters l.conf.types (views l.operands)
