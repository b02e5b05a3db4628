use Rattle.std.proofs.Common.{not, ap, sym, ◌∙◌, ◌+◌}
use Rattle.std.proofs.lemmas.Result.{IfOk-weaker, IfOk-from_err}
use Rattle.candidates.specs.Sides.{sides}
use Rattle.candidates.specs.inner.OneSide.{on}
use Rattle.candidates.specs.inner.Held.{hold}
use Rattle.candidates.proofs.Operands.{with_operands, operand_next, starts, in_all, in_any}
use Rattle.filter.specs.declared.prepared_filter.PreparedFilter.{PreparedFilter}
use Rattle.filter.specs.declared.prepared_filter.PreparedFilter.TheOpen as layer
use Rattle.filter.specs.declared.prepared_filter.PreparedFilter.TheVariants as variants
use Rattle.filter.specs.declared.prepared_filter.PreparedFilter.TheFolds.{fold-roll-PreparedFilter}
use Rattle.filter.specs.Prepared.{PreparedContent, prepared_view, prepared_view_step}
use Rattle.candidates.proofs.filters.+operands.Goals as goal

pub operands_on-loop-operand-init : goal.operands_on-loop-operand-init
operands_on-loop-operand-init g t c n =
    starts (g.P.Postings.shown c.args.postings.now) n c.args.all c.args.side c.args.operands.now (hold g.P.Set.IdSet.members c.all_or_none-numbers.result n) (c.all_or_none-numbers.ensures n)

pub operands_on-loop-operand-preserved : goal.operands_on-loop-operand-preserved
operands_on-loop-operand-preserved g t c n =
    let shown = g.P.Postings.shown c.args.postings.now in
    let fs = c.args.operands.now in
    let i = c.loop-operand.operand-index in
    ap (λ a. with_operands shown n c.args.all c.args.side fs a (i + 1)) (c.in_ok-numbers.ensures n)
    ∙ sym (operand_next shown n c.args.all c.args.side fs (hold g.P.Set.IdSet.members c.loop-operand.numbers n) (hold g.P.Set.IdSet.members c.in_ok-next.next n) i c.operand-item.result c.loop-operand-test.true
    (sym (c.in_ok-next.ensures n ∙ ap (λ (f : PreparedFilter). on c.args.side (sides shown n (prepared_view f))) c.operand-item.is)))
    ∙ c.loop-operand.invariant n

pub numbers_on-returns-in-And : goal.numbers_on-returns-in-And
numbers_on-returns-in-And g t c =
    IfOk-weaker c.operands_on.result _ _ (λ numbers told n.
    told n
    ∙ in_all (g.P.Postings.shown c.args.postings.now) n c.is_may_be_true-all.result c.args.side c.as_slice.result.now c.in-And.operands.items c.as_slice.ensures.value (prepared_view c.args.filter.now) c.is_may_be_true-all.ensures
    (ap prepared_view (c.in-And.is ∙ sym (variants.rolls-And c.in-And.operands)) ∙ fold-roll-PreparedFilter PreparedContent prepared_view_step (layer.And c.in-And.operands)))
    c.operands_on.ensures

pub numbers_on-returns-in-Or : goal.numbers_on-returns-in-Or
numbers_on-returns-in-Or g t c =
    IfOk-weaker c.operands_on-in-Or.result _ _ (λ numbers told n.
    told n
    ∙ in_any (g.P.Postings.shown c.args.postings.now) n (not c.is_may_be_true-all-in-Or.result) c.args.side c.as_slice-in-Or.result.now c.in-Or.operands.items c.as_slice-in-Or.ensures.value (prepared_view c.args.filter.now)
    (ap not c.is_may_be_true-all-in-Or.ensures)
    (ap prepared_view (c.in-Or.is ∙ sym (variants.rolls-Or c.in-Or.operands)) ∙ fold-roll-PreparedFilter PreparedContent prepared_view_step (layer.Or c.in-Or.operands)))
    c.operands_on-in-Or.ensures

pub operands_on-returns-in_err-next : goal.operands_on-returns-in_err-next
operands_on-returns-in_err-next g t c = IfOk-from_err _ _ c.from_residual.ensures.0

pub operands_on-returns-in_err-numbers : goal.operands_on-returns-in_err-numbers
operands_on-returns-in_err-numbers g t c = IfOk-from_err _ _ c.from_residual-in_err-numbers.ensures.0
