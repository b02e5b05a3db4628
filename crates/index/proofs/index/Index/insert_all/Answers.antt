use Rattle.std.proofs.Common.{◌≡◌, ◌+◌, ◌∙◌, false, not, cond, take, refl, ap, subst, arith}
use Rattle.std.proofs.lemmas.List.{length-take}
use Rattle.std.specs.FinSet as set
use Rattle.index_text.specs.KeySets.{Members}
use Rattle.index_text.specs.SlotKeys.{slot_key, same_slot_key}
use Rattle.index_text.specs.Indexes.{members}
use Rattle.index.specs.Indexes.{Inserts}
use Rattle.index_text.proofs.SlotKeyOrder.{itself, slot_key_is}
use Rattle.index.proofs.Edits.{came_counted, inserted, grows_by, grows_on, none_counted}
use Rattle.index.proofs.OneByOne.{all_read, more_read, next_read, put_again, among, undone, front_distinct, all_have}
use Rattle.index.proofs.index.Index.insert_all.Goals as goal

pub returns-in-Err-clause-err : goal.returns-in-Err-clause-err
returns-in-Err-clause-err c =
    undone (members c.args.self.now) (members c.loop-done.self) _ c.args.keys.now c.loop-done.done c.args.number c.requires.lacking
    (λ p. c.remove_all.ensures.members p ∙ ap (λ (s : Members). cond (among (take c.loop-done.done c.args.keys.now) p) (set.remove s c.args.number) s) (c.in-Err.ensures.err p))
    c.loop-done.invariant.came

pub loop-done-init : goal.loop-done-init
loop-done-init c = record {
  same_conf = refl;
  came = λ p. refl;
  counted = none_counted same_slot_key itself slot_key_is (members c.args.self.now) (members c.args.self.now) c.args.self.now.edits c.args.self.now.edits (λ p. refl) refl;
  more = λ p n h. h;
  edits = omega arith;
}

pub returns-in-Err-clause-refused : goal.returns-in-Err-clause-refused
returns-in-Err-clause-refused c =
    let ps = c.args.keys.now in
    let i = c.loop-done.done in
    let front = take i ps in
    let back =
    c.remove_all.ensures.all (front_distinct ps i c.requires.apart)
    (all_have (members c.args.self.now) (members c.insert.new.self) c.args.number front front (λ p h. h) (λ p. c.in-Err.ensures.err p ∙ c.loop-done.invariant.came p)) in
    let up = c.loop-done.invariant.edits in
    let still = c.in-Err.ensures.refused in
    let long = length-take i ps in
    let lt = c.loop-done-test.true in
    record { rises = omega (arith, back, up, still); few = omega (arith, back, up, still, long, lt) }

pub loop-done-preserved : goal.loop-done-preserved
loop-done-preserved c =
    let lt = c.loop-done-test.true in
    let i = c.loop-done.done in
    let ps = c.args.keys.now in
    let x = c.index-keys-done.result in
    record {
      same_conf = c.insert.ensures.same_conf ∙ c.loop-done.invariant.same_conf;
      came = more_read (λ s. set.insert s c.args.number) (λ s. put_again s c.args.number) (members c.args.self.now) (members c.loop-done.self) _ ps i x c.index-keys-done.is lt (subst (λ k. Inserts (same_slot_key (slot_key x.slot.0 k)) c.args.number c.loop-done.self c.insert.new.self) c.as_slice.ensures c.in-Ok.ensures.ok) c.loop-done.invariant.came;
      counted = came_counted same_slot_key itself slot_key_is (members c.args.self.now) (members c.loop-done.self) (members c.insert.new.self) c.args.self.now.edits c.loop-done.self.edits c.insert.new.self.edits
          c.loop-done.invariant.counted
          (inserted same_slot_key itself slot_key_is (members c.loop-done.self) (members c.insert.new.self) (slot_key x.slot.0 c.as_slice.result.now) c.args.number c.in-Ok.ensures.ok c.loop-done.self.edits c.insert.new.self.edits c.in-Ok.field-0 c.in-Ok.ensures.new c.in-Ok.ensures.edits)
          c.loop-done.invariant.more
          (grows_by (members c.loop-done.self) (members c.insert.new.self) _ c.args.number c.in-Ok.ensures.ok);
      more = grows_on (members c.args.self.now) (members c.loop-done.self) (members c.insert.new.self) c.loop-done.invariant.more (grows_by (members c.loop-done.self) (members c.insert.new.self) _ c.args.number c.in-Ok.ensures.ok);
      edits =
          c.in-Ok.ensures.edits
          ∙ ap (λ b. c.loop-done.self.edits + cond b 1 0)
          (c.in-Ok.ensures.new ∙ ap (λ k. not (set.contains (members c.loop-done.self (slot_key x.slot.0 k)) c.args.number)) c.as_slice.ensures ∙ ap not (ap (λ (s : Members). set.contains s c.args.number) (next_read (λ s. set.insert s c.args.number) (members c.args.self.now) (members c.loop-done.self) ps i x c.index-keys-done.is c.requires.apart lt c.loop-done.invariant.came) ∙ all_read (λ p. set.contains (members c.args.self.now p) c.args.number ≡ false) ps i x c.index-keys-done.is c.requires.lacking lt))
          ∙ (let was = c.loop-done.invariant.edits in omega (arith, was));
    }
