use Rattle.std.proofs.Common.{◌≡◌, ◌++◌, drop}
use Rattle.filter.specs.Prepared.{prepared_views}
use Rattle.index_text.specs.Postings.{slot_in}
use Rattle.candidates.specs.Asked.{asked_keys_each}
use Rattle.candidates.proofs.asked.+operands.Given as goal

abbrev pub invariant-push_operands-loop-operand : goal.invariant-push_operands-loop-operand
invariant-push_operands-loop-operand l =
    l.keys.items ++ asked_keys_each (slot_in l.slots) (prepared_views (drop l.operand-index l.operands)) ≡ l.fn.keys.items ++ asked_keys_each (slot_in l.slots) (prepared_views l.operands)
