use Rattle.std.proofs.Common.{◌<◌, subst, length, ◌∙◌}
use Rattle.values.specs.declared.types.AttributeType.{AttributeType}
use Rattle.std.proofs.Common.{List}
use Rattle.filter.proofs.SubtypeLists.{found_more, found_no_more}
use Rattle.filter.proofs.prepare_item.subtypes.Goals as goal
use Rattle.filter.proofs.prepare_item.subtypes.Goals.{then-is_subtype+in_ok-push, else-is_subtype}

pub loop-number-preserved : goal.loop-number-preserved
loop-number-preserved c =
    let types = c.args.conf.now.types in
    let n = c.loop-number.number in
    let below = subst (λ (ts : List AttributeType). n < length ts) c.types-number-end.ensures.types c.loop-number-test.true in
    let told = c.subtypes_are_told.ensures c.args.conf.now n c.args.t c.rules_are_kept.ensures below in
    let under = c.from_number-under.result in
    let before = c.loop-number.invariant in
    elim c.if-is_subtype.branch [
      | then-is_subtype+in_ok-push w ↦ w.found-is ∙ (w.in_ok-push.ensures.ok ∙ found_more types c.args.t n under c.loop-number.found c.is_subtype.result c.from_number-under.ensures told c.is_subtype.ensures before w.if-is_subtype.true)
      | else-is_subtype w ↦ w.found-is ∙ found_no_more types c.args.t n under c.loop-number.found c.is_subtype.result c.from_number-under.ensures told c.is_subtype.ensures before w.if-is_subtype.false
    ]
