use Rattle.std.proofs.Common.{◌&&◌, ◌∙◌, nat_eq, refl, sym, ap, arith}
use Rattle.std.proofs.lemmas.Bool.{or_right}
use Rattle.std.specs.List.{list_any}
use Rattle.std.specs.FinSet as set
use Rattle.std.specs.Str.{bytes_eq}
use Rattle.base.proofs.Extended.{on_err_too}
use Rattle.index_text.specs.SlotKeys.{same_slot_key}
use Rattle.index_text.specs.Indexes.{members}
use Rattle.index_text.proofs.SlotKeyOrder.{itself, slot_key_is}
use Rattle.index.proofs.Edits.{came_counted, none_counted}
use Rattle.index.proofs.OneByOne.{with_keys, one_key, no_key}
use Rattle.index.proofs.Counted.{one_more_has, none_came, then_some, some_grow, key_came, key_counted}
use Rattle.index.proofs.index.Index.insert_under.Goals as goal

pub loop-key-init : goal.loop-key-init
loop-key-init c = record {
  same_conf = refl;
  rest = λ p. ap (λ keys. with_keys (members c.args.self.now) c.args.slot.0 c.args.number keys p) c.into_iter-key-iterator.ensures.into_iter_gives;
  counted = λ start. start;
  all = none_counted same_slot_key itself slot_key_is (members c.args.self.now) (members c.args.self.now) c.args.self.now.edits c.args.self.now.edits (λ p. refl) refl;
  some = none_came _ c.args.number c.args.self.now c.args.self.now (λ p. refl);
  left = λ q h. sym (ap (list_any (λ k. bytes_eq k q)) c.into_iter-key-iterator.ensures.into_iter_gives) ∙ h;
  edited = refl;
}

pub loop-key-preserved : goal.loop-key-preserved
loop-key-preserved c = record {
  same_conf = c.insert.ensures.same_conf ∙ c.loop-key.invariant.same_conf;
  rest = λ p. one_key (members c.loop-key.self) (members c.insert.new.self) c.args.slot.0 c.args.number c.in-Some.key.now c.next.new.self c.loop-key.key-iterator c.in-Some.ensures.steps c.in_ok-new.ensures.ok p ∙ c.loop-key.invariant.rest p;
  counted = λ start. one_more_has c.loop-key.self c.insert.new.self _ c.args.number c.loop-key.count c.in_ok-count.count c.in_ok-new.new c.in_ok-new.ensures.ok c.in_ok-new.ensures.new c.in_ok-count.ensures (c.loop-key.invariant.counted start);
  all = key_counted c.args.slot.0 c.args.number c.in-Some.key.now c.args.keys c.loop-key.key-iterator c.next.new.self c.args.self.now c.loop-key.self c.insert.new.self c.loop-key.invariant.some c.loop-key.invariant.all c.in_ok-new.ensures.ok c.in_ok-new.new c.in_ok-new.ensures.new c.in_ok-new.ensures.edits;
  some = key_came c.args.slot.0 c.args.number c.in-Some.key.now c.args.keys c.loop-key.key-iterator c.next.new.self c.args.self.now c.loop-key.self c.insert.new.self c.in-Some.ensures.steps c.loop-key.invariant.left c.loop-key.invariant.some c.in_ok-new.ensures.ok;
  left = λ q h. c.loop-key.invariant.left q (ap (list_any (λ k. bytes_eq k q)) c.in-Some.ensures.steps ∙ or_right (bytes_eq c.in-Some.key.now q) (list_any (λ k. bytes_eq k q) c.next.new.self) h);
  edited = let here = c.in_ok-new.ensures.edits in let more = c.in_ok-count.ensures in let was = c.loop-key.invariant.edited in omega (arith, here, more, was);
}

pub returns-in_err-new-clause-err : goal.returns-in_err-new-clause-err
returns-in_err-new-clause-err c =
    on_err_too c.from_residual.result
    (then_some (λ p. nat_eq c.args.slot.0 p.slot.0 && list_any (λ k. bytes_eq k p.key) c.args.keys) (λ p. nat_eq c.args.slot.0 p.slot.0 && list_any (λ k. bytes_eq k p.key) c.args.keys) c.args.number c.args.self.now c.loop-key.self c.insert.new.self (λ p h. h)
    c.loop-key.invariant.some (none_came _ c.args.number c.loop-key.self c.insert.new.self c.in_err-new.ensures.err))

pub returns-in_err-new-clause-counted : goal.returns-in_err-new-clause-counted
returns-in_err-new-clause-counted c =
    came_counted same_slot_key itself slot_key_is (members c.args.self.now) (members c.loop-key.self) (members c.insert.new.self) c.args.self.now.edits c.loop-key.self.edits c.insert.new.self.edits
    c.loop-key.invariant.all
    (none_counted same_slot_key itself slot_key_is (members c.loop-key.self) (members c.insert.new.self) c.loop-key.self.edits c.insert.new.self.edits c.in_err-new.ensures.err c.in_err-new.ensures.refused)
    (some_grow _ c.args.number c.args.self.now c.loop-key.self c.loop-key.invariant.some)
    (λ p n h. ap (λ s. set.contains s n) (c.in_err-new.ensures.err p) ∙ h)

pub returns-in_err-count-clause-err : goal.returns-in_err-count-clause-err
returns-in_err-count-clause-err c = on_err_too c.from_residual-in_err-count.result (key_came c.args.slot.0 c.args.number c.in-Some.key.now c.args.keys c.loop-key.key-iterator c.next.new.self c.args.self.now c.loop-key.self c.insert.new.self c.in-Some.ensures.steps c.loop-key.invariant.left c.loop-key.invariant.some c.in_ok-new.ensures.ok)

pub returns-in_err-count-clause-counted : goal.returns-in_err-count-clause-counted
returns-in_err-count-clause-counted c = key_counted c.args.slot.0 c.args.number c.in-Some.key.now c.args.keys c.loop-key.key-iterator c.next.new.self c.args.self.now c.loop-key.self c.insert.new.self c.loop-key.invariant.some c.loop-key.invariant.all c.in_ok-new.ensures.ok c.in_ok-new.new c.in_ok-new.ensures.new c.in_ok-new.ensures.edits

pub returns-clause-counted : goal.returns-clause-counted
returns-clause-counted c = c.loop-key.invariant.all

pub returns-clause-ok : goal.returns-clause-ok
returns-clause-ok c = no_key (members c.args.self.now) (members c.loop-key.self) c.args.slot.0 c.args.number c.loop-key.key-iterator c.args.keys c.in-None.ensures.steps.0 c.loop-key.invariant.rest
