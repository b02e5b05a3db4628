use Rattle.std.proofs.Common.{◌≡◌, ◌+◌, ◌∙◌, true, cond, refl, ap, subst, arith}
use Rattle.std.specs.FinSet as set
use Rattle.index_text.specs.KeySets.{Members}
use Rattle.index_text.specs.SlotKeys.{slot_key, same_slot_key}
use Rattle.index_text.specs.Indexes.{members}
use Rattle.index.specs.Indexes.{Removes}
use Rattle.index_text.proofs.SlotKeyOrder.{itself, slot_key_is}
use Rattle.index.proofs.Edits.{went_counted, removed, was_there, grows_on, none_counted}
use Rattle.index.proofs.OneByOne.{all_read, more_read, next_read, take_again}
use Rattle.index.proofs.index.Index.remove_all.Goals as goal

pub loop-key-init : goal.loop-key-init
loop-key-init c = record {
  same_conf = refl;
  removed = λ p. refl;
  counted = none_counted same_slot_key itself slot_key_is (members c.args.self.now) (members c.args.self.now) c.args.self.now.edits c.args.self.now.edits (λ p. refl) refl;
  fewer = λ p n h. h;
  edits = λ apart all. omega arith;
}

pub loop-key-preserved : goal.loop-key-preserved
loop-key-preserved c =
    let lt = c.loop-key-test.true in
    let i = c.loop-key.key-index in
    let ps = c.args.keys.now in
    let x = c.key-item.result in
    record {
      same_conf = c.remove.ensures.same_conf ∙ c.loop-key.invariant.same_conf;
      removed = more_read (λ s. set.remove s c.args.number) (λ s. take_again s c.args.number) (members c.args.self.now) (members c.loop-key.self) _ ps i x c.key-item.is lt (subst (λ k. Removes (same_slot_key (slot_key x.slot.0 k)) c.args.number c.loop-key.self c.remove.new.self) c.as_slice.ensures c.remove.ensures.members) c.loop-key.invariant.removed;
      counted = went_counted same_slot_key itself slot_key_is (members c.args.self.now) (members c.loop-key.self) (members c.remove.new.self) c.args.self.now.edits c.loop-key.self.edits c.remove.new.self.edits
          c.loop-key.invariant.counted
          (removed same_slot_key itself slot_key_is (members c.loop-key.self) (members c.remove.new.self) (slot_key x.slot.0 c.as_slice.result.now) c.args.number c.remove.ensures.members c.loop-key.self.edits c.remove.new.self.edits c.remove.result c.remove.ensures.was c.remove.ensures.edits)
          c.loop-key.invariant.fewer
          (was_there (members c.loop-key.self) (members c.remove.new.self) _ c.args.number c.remove.ensures.members);
      fewer = grows_on (members c.remove.new.self) (members c.loop-key.self) (members c.args.self.now) (was_there (members c.loop-key.self) (members c.remove.new.self) _ c.args.number c.remove.ensures.members) c.loop-key.invariant.fewer;
      edits = λ apart all.
          c.remove.ensures.edits
          ∙ ap (λ b. c.loop-key.self.edits + cond b 1 0)
          (c.remove.ensures.was ∙ ap (λ k. set.contains (members c.loop-key.self (slot_key x.slot.0 k)) c.args.number) c.as_slice.ensures ∙ ap (λ (s : Members). set.contains s c.args.number) (next_read (λ s. set.remove s c.args.number) (members c.args.self.now) (members c.loop-key.self) ps i x c.key-item.is apart lt c.loop-key.invariant.removed) ∙ all_read (λ p. set.contains (members c.args.self.now p) c.args.number ≡ true) ps i x c.key-item.is all lt)
          ∙ (let was = c.loop-key.invariant.edits apart all in omega (arith, was));
    }
