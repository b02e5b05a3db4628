use Rattle.std.proofs.Common.{ap, ◌∙◌, ◌++◌}
use Rattle.std.proofs.lemmas.Result.{IfOk-from_err}
use Rattle.candidates.specs.Asked.{asked_keys}
use Rattle.candidates.proofs.Asking.{operand_put}
use Rattle.index_text.specs.Postings.{slot_in}
use Rattle.filter.specs.Prepared.{prepared_view}
use Rattle.filter.specs.declared.prepared_filter.PreparedFilter.{PreparedFilter}
use Rattle.candidates.proofs.asked.+operands.Goals as goal

pub push_operands-loop-operand-preserved : goal.push_operands-loop-operand-preserved
push_operands-loop-operand-preserved t c =
    let slot_of = slot_in c.args.slots.now in
    operand_put c.loop-operand.keys.items c.push_filter.new.keys.items slot_of c.args.operands.now c.loop-operand.operand-index c.operand-item.result c.loop-operand-test.true
    (c.in_ok-push_filter.ensures ∙ ap (λ (f : PreparedFilter). c.loop-operand.keys.items ++ asked_keys slot_of (prepared_view f)) c.operand-item.is)
    ∙ c.loop-operand.invariant

pub push_operands-returns-in_err-push_filter : goal.push_operands-returns-in_err-push_filter
push_operands-returns-in_err-push_filter t c = IfOk-from_err _ _ c.from_residual.ensures.0
