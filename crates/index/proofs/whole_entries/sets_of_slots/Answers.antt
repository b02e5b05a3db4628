use Rattle.std.proofs.Common.{List, [], ◌∷◌, ◌++◌, refl, sym, ap, subst, ◌∙◌}
use Rattle.std.proofs.lemmas.Bool.{both_ways}
use Rattle.std.specs.FinSet as set
use Rattle.std.specs.Ordering.{nat_cmp}
use Rattle.index_text.specs.KeySets.{SetsByKey}
use Rattle.index_text.specs.SlotKeys.{same_slot_key}
use Rattle.index_text.proofs.SlotKeyOrder.{itself, slot_key_is}
use Rattle.index.specs.Edits.{CountsEach}
use Rattle.index.specs.inner.SlotEntries.{AreSetsOf, members_of}
use Rattle.index.proofs.Edits.{none_counted, came_counted}
use Rattle.index_keys.specs.declared.type_norms.NumberedNorm.{NumberedNorm}
use Rattle.index.specs.inner.SlotEntries.{IsSetOf}
use Rattle.index.proofs.WholeEntries.{sets_more, slot_comes, slot_grows, no_slot_has}
use Rattle.index.proofs.whole_entries.sets_of_slots.Goals as goal

pub loop-slot-init : goal.loop-slot-init
loop-slot-init c = record {
  so_far = subst (λ (xs : List SetsByKey). AreSetsOf c.args.conf.now.types c.args.entries.now [] xs) (sym c.in_ok-all.ensures.items) tt;
  counted = none_counted same_slot_key itself slot_key_is (λ p. set.empty) (members_of c.in_ok-all.all.items) c.args.edits.now c.args.edits.now (λ p. ap (λ (xs : List SetsByKey). members_of xs p) c.in_ok-all.ensures.items ∙ no_slot_has p) refl;
  kept = tt;
}

pub loop-slot-preserved : goal.loop-slot-preserved
loop-slot-preserved c =
    let s = c.slot-item.result in
    let k = c.in_ok-of_type.of_type in
    record {
      so_far = sets_more c.args.conf.now.types c.args.entries.now c.args.slots.now c.loop-slot.all.items c.push.new.self.items c.loop-slot.slot-index s _ k.type_id k.norms.items c.slot-item.is c.loop-slot-test.true c.in_ok-push.ensures.items
          c.in_ok-of_type.ensures.of_type c.in_ok-of_type.ensures.norms
          (subst (λ (ns : List NumberedNorm). IsSetOf s.kind ns c.in_ok-sets_of.field-0) c.as_slice.ensures.value c.in_ok-sets_of.ensures.set)
          c.loop-slot.invariant.so_far;
      counted = subst (λ (xs : List SetsByKey). CountsEach same_slot_key (λ p. set.empty) (members_of xs) c.args.edits.now c.sets_of.new.edits) (sym c.in_ok-push.ensures.items)
          (came_counted same_slot_key itself slot_key_is (λ p. set.empty) (members_of c.loop-slot.all.items) (members_of (c.loop-slot.all.items ++ c.in_ok-sets_of.field-0 ∷ [])) c.args.edits.now c.loop-slot.edits c.sets_of.new.edits
          c.loop-slot.invariant.counted
          (slot_comes c.loop-slot.all.items c.in_ok-sets_of.field-0 c.loop-slot.edits c.sets_of.new.edits c.in_ok-sets_of.ensures.counted)
          (λ p n h. absurd (both_ways _ (set.contains-empty nat_cmp n) h))
          (slot_grows c.loop-slot.all.items c.in_ok-sets_of.field-0 c.loop-slot.edits c.sets_of.new.edits c.in_ok-sets_of.ensures.counted));
      kept = c.in_ok-of_type.ensures.norms;
    }
