use Rattle.std.proofs.Common.{sym}
use Rattle.index.proofs.Distinct.{only_lent, rise_lent, among_lent, with_keys_that}
use Rattle.index.proofs.Fronts.{behind_front}
use Rattle.index.proofs.changes.push_changes.Goals as goal

pub keys_among-requires-clause-rise : goal.keys_among-requires-clause-rise
keys_among-requires-clause-rise c = rise_lent (λ k. k.now) _ c.in_ok-has.has.items c.deref.result.now c.in_ok-has.ensures c.deref.ensures.value

pub push_missing-requires : goal.push_missing-requires
push_missing-requires c = rise_lent (λ k. k.now) _ c.in_ok-kept.kept.items c.deref-3.result.now c.in_ok-kept.ensures c.deref-3.ensures.value

pub keys_among-requires-2-clause-rise : goal.keys_among-requires-2-clause-rise
keys_among-requires-2-clause-rise c = rise_lent (λ k. k.now) _ c.in_ok-had.had.items c.deref-4.result.now c.in_ok-had.ensures c.deref-4.ensures.value

pub push_missing-requires-2 : goal.push_missing-requires-2
push_missing-requires-2 c = rise_lent (λ k. k.now) _ c.in_ok-left.left.items c.deref-6.result.now c.in_ok-left.ensures c.deref-6.ensures.value

pub returns-clause-came : goal.returns-clause-came
returns-clause-came c =
    with_keys_that c.args.number.0 _ _ c.args.found.now.came.items c.push_missing.new.found.items (behind_front c.args.slot.now.kind c.same_front-front.result _ _ c.same_front-front.ensures)
    (only_lent (λ k. k.now) c.args.number.0 _ _ c.in_ok-has.has.items c.in_ok-kept.kept.items c.deref-2.result.now c.deref-3.result.now c.args.found.now.came.items c.push_missing.new.found.items
    c.in_ok-has.ensures (among_lent (λ k. k.now) _ _ _ c.in_ok-has.has.items c.deref.result.now c.deref.ensures.value c.in_ok-has.ensures c.in_ok-kept.ensures) c.deref-2.ensures.value c.deref-3.ensures.value c.in_ok-push_missing.ensures)

pub returns-clause-gone : goal.returns-clause-gone
returns-clause-gone c =
    with_keys_that c.args.number.0 _ _ c.args.found.now.gone.items c.push_missing-2.new.found.items (behind_front c.args.slot.now.kind c.same_front-front.result _ _ (sym c.same_front-front.ensures))
    (only_lent (λ k. k.now) c.args.number.0 _ _ c.in_ok-had.had.items c.in_ok-left.left.items c.deref-5.result.now c.deref-6.result.now c.args.found.now.gone.items c.push_missing-2.new.found.items
    c.in_ok-had.ensures (among_lent (λ k. k.now) _ _ _ c.in_ok-had.had.items c.deref-4.result.now c.deref-4.ensures.value c.in_ok-had.ensures c.in_ok-left.ensures) c.deref-5.ensures.value c.deref-6.ensures.value c.in_ok-push_missing-2.ensures)
