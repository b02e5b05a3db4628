use Rattle.index.specs.KeyChanges.{content_in}
use Rattle.index.specs.inner.SlotTests.{has_only}
use Rattle.index.proofs.Changed.{at_slot, slot_read, all_read, changes_are}
use Rattle.index.proofs.Listed.{listed_none, listed_more}
use Rattle.index.proofs.changes.key_changes.Goals as goal

pub loop-place-init : goal.loop-place-init
loop-place-init c = record { came = listed_none _ c.new.result.items c.new.ensures.items; gone = listed_none _ c.new-2.result.items c.new-2.ensures.items }

pub loop-place-preserved : goal.loop-place-preserved
loop-place-preserved c =
    let conf = c.args.conf.now in
    let before = content_in c.args.before in
    let after = content_in c.args.after in
    let place = c.loop-place.place in
    let read = slot_read conf.slots c.slots-slot-items.result.now place c.slot-item.result c.slots-slot-items.ensures c.loop-place-test.true c.slot-item.is in
    record {
      came = listed_more place (has_only conf after before) _ (at_slot conf after before place c.slot-item.result read) _ _ c.loop-place.invariant.came c.in_ok-push_changes.ensures.came;
      gone = listed_more place (has_only conf before after) _ (at_slot conf before after place c.slot-item.result read) _ _ c.loop-place.invariant.gone c.in_ok-push_changes.ensures.gone;
    }

pub returns : goal.returns
returns c =
    changes_are c.args.conf.now (content_in c.args.before) (content_in c.args.after) c.loop-place.place c.loop-place.found.came.items c.loop-place.found.gone.items
    (all_read c.args.conf.now.slots c.slots-slot-items.result.now c.loop-place.place c.slots-slot-items.ensures c.loop-place-test.false c.loop-place.auto.place-end)
    c.loop-place.invariant.came
    c.loop-place.invariant.gone
