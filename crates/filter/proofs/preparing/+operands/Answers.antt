use Rattle.std.proofs.Common.{◌∙◌, ap, sym, drop, ◌+◌}
use Rattle.filter_text.specs.declared.filters.Filter.TheOpen as text_layer
use Rattle.filter_text.specs.declared.filters.Filter.TheVariants as text_variants
use Rattle.filter_text.specs.declared.filters.Filter.TheFolds.{fold-roll-Filter}
use Rattle.filter_text.specs.Spells as texts
use Rattle.filter.specs.declared.prepared_filter.PreparedFilter.TheOpen as layer
use Rattle.filter.specs.declared.prepared_filter.PreparedFilter.TheVariants as variants
use Rattle.filter.specs.declared.prepared_filter.PreparedFilter.TheFolds.{fold-roll-PreparedFilter}
use Rattle.filter.specs.Prepared.{PreparedContent, All_of, Any_of, prepared_view, prepared_view_step, prepared_filter}
use Rattle.filter.proofs.PreparedOperands.{prepared_operands, operands_next, operands_done}
use Rattle.filter.proofs.preparing.+operands.Goals as goal

pub prepare_operands-loop-operand-preserved : goal.prepare_operands-loop-operand-preserved
prepare_operands-loop-operand-preserved t c =
    let types = c.args.conf.now.types in
    let fs = c.args.operands.now in
    let i = c.loop-operand.operand-index in
    ap (λ done. prepared_operands types done (drop (i + 1) fs)) c.in_ok-push.ensures.items
    ∙ operands_next types c.loop-operand.prepared.items c.in_ok-prepare_filter.field-0 fs i c.operand-item.result c.loop-operand-test.true
    (c.in_ok-prepare_filter.ensures ∙ ap (λ f. prepared_filter types (texts.view f)) c.operand-item.is)
    ∙ c.loop-operand.invariant

pub prepare_operands-returns : goal.prepare_operands-returns
prepare_operands-returns t c =
    sym (operands_done c.args.conf.now.types c.loop-operand.prepared.items c.args.operands.now c.loop-operand.operand-index c.loop-operand-test.false) ∙ c.loop-operand.invariant

pub prepare_filter-returns-in_ok-prepared-in-And : goal.prepare_filter-returns-in_ok-prepared-in-And
prepare_filter-returns-in_ok-prepared-in-And t c =
    let types = c.args.conf.now.types in
    let prepared = c.in_ok-prepared-in-And.prepared in
    let operands = c.in-And.operands in
    ap prepared_view (sym (variants.rolls-And prepared)) ∙ fold-roll-PreparedFilter PreparedContent prepared_view_step (layer.And prepared)
    ∙ ap All_of c.in_ok-prepared-in-And.ensures
    ∙ ap (λ items. prepared_filter types (texts.All_of (texts.views items))) c.as_slice.ensures.value
    ∙ ap (prepared_filter types) (sym (ap texts.view (c.in-And.is ∙ sym (text_variants.rolls-And operands)) ∙ fold-roll-Filter texts.FilterContent texts.view_step (text_layer.And operands)))

pub prepare_filter-returns-in_ok-prepared-in-Or : goal.prepare_filter-returns-in_ok-prepared-in-Or
prepare_filter-returns-in_ok-prepared-in-Or t c =
    let types = c.args.conf.now.types in
    let prepared = c.in_ok-prepared-in-Or.prepared in
    let operands = c.in-Or.operands in
    ap prepared_view (sym (variants.rolls-Or prepared)) ∙ fold-roll-PreparedFilter PreparedContent prepared_view_step (layer.Or prepared)
    ∙ ap Any_of c.in_ok-prepared-in-Or.ensures
    ∙ ap (λ items. prepared_filter types (texts.Any_of (texts.views items))) c.as_slice-in-Or.ensures.value
    ∙ ap (prepared_filter types) (sym (ap texts.view (c.in-Or.is ∙ sym (text_variants.rolls-Or operands)) ∙ fold-roll-Filter texts.FilterContent texts.view_step (text_layer.Or operands)))
