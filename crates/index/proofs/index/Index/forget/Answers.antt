use Rattle.std.proofs.Common.{◌≡◌, cond, length, refl, sym, ap, ◌∙◌, arith}
use Rattle.std.specs.FinSet as set
use Rattle.index_text.specs.Indexes.{Index, members}
use Rattle.index_text.specs.SlotKeys.{same_slot_key}
use Rattle.index_text.proofs.SlotKeyOrder.{itself, slot_key_is}
use Rattle.index.proofs.Edits.{none_counted, went_counted, was_there, grows_on}
use Rattle.index.proofs.Forgotten.{slot_gone, all_gone}
use Rattle.index.proofs.Listed.{none_below}
use Rattle.index.proofs.index.Index.forget.Goals as goal

pub loop-place-init : goal.loop-place-init
loop-place-init c = record {
  same_conf = refl;
  gone = λ p. ap (λ b. cond b (set.remove (members c.args.self.now p) c.args.number) (members c.args.self.now p)) (sym (none_below p.slot.0));
  counted = none_counted same_slot_key itself slot_key_is (members c.args.self.now) (members c.args.self.now) c.args.self.now.edits c.args.self.now.edits (λ p. refl) refl;
  fewer = λ p n h. h;
}

pub loop-place-preserved : goal.loop-place-preserved
loop-place-preserved c = record {
  same_conf = c.forget_under.ensures.same_conf ∙ c.loop-place.invariant.same_conf;
  gone = slot_gone c.args.self.now c.loop-place.self c.forget_under.new.self c.loop-place.place c.args.number c.forget_under.ensures.members c.loop-place.invariant.gone;
  counted = went_counted same_slot_key itself slot_key_is (members c.args.self.now) (members c.loop-place.self) (members c.forget_under.new.self) c.args.self.now.edits c.loop-place.self.edits c.forget_under.new.self.edits
      c.loop-place.invariant.counted c.forget_under.ensures.edits c.loop-place.invariant.fewer (was_there (members c.loop-place.self) (members c.forget_under.new.self) _ c.args.number c.forget_under.ensures.members);
  fewer = grows_on (members c.forget_under.new.self) (members c.loop-place.self) (members c.args.self.now) (was_there (members c.loop-place.self) (members c.forget_under.new.self) _ c.args.number c.forget_under.ensures.members) c.loop-place.invariant.fewer;
}

pub returns-clause-members : goal.returns-clause-members
returns-clause-members c =
    let lens : length c.self.inside.sets.items ≡ length c.args.self.now.slots = ap (λ (x : Index). length x.slots) c.self.view_is in
    let end : length c.as_slice-place-end.result.now ≡ length c.self.inside.sets.items = ap length c.as_slice-place-end.ensures.value in
    let late = c.loop-place-test.false in
    all_gone c.args.self.now c.loop-place.self c.loop-place.place c.args.number (omega (arith, lens, end, late)) c.loop-place.invariant.gone
