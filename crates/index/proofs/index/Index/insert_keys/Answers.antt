use Rattle.std.proofs.Common.{refl, ◌+◌, ◌<◌, ◌&&◌, ◌∙◌, List, ℕ, cond, length, nat_eq, nat_lt, sym, ap, subst, arith}
use Rattle.std.specs.List.{list_any}
use Rattle.std.specs.Str.{bytes_eq}
use Rattle.std.specs.FinSet as set
use Rattle.schema.specs.Conf.{Conf}
use Rattle.schema.specs.declared.slots.Slot.{Slot}
use Rattle.entries.specs.StoredEntries.{attributes_of}
use Rattle.index_keys.specs.EntryKeys.{slot_keys}
use Rattle.index_text.specs.Indexes.{members}
use Rattle.std.proofs.lemmas.Bool.{and_parts, or_right}
use Rattle.base.proofs.Extended.{on_err_too}
use Rattle.index_text.specs.SlotKeys.{same_slot_key}
use Rattle.index_text.proofs.SlotKeyOrder.{itself, slot_key_is}
use Rattle.index.proofs.Edits.{came_counted, none_counted, grows_by}
use Rattle.index.proofs.KnownSlots.{known_key}
use Rattle.index_keys.proofs.Agreement.{told_there}
use Rattle.index.proofs.Changed.{slot_read, all_read}
use Rattle.index.proofs.Counted.{those_came, then_some, some_grow}
use Rattle.index.proofs.Listed.{which, none_below}
use Rattle.index.proofs.OneByOne.{one_slot}
use Rattle.index.proofs.index.Index.insert_keys.Goals as goal

pub loop-place-preserved : goal.loop-place-preserved
loop-place-preserved c =
    let conf = c.args.conf.now in
    let attrs = attributes_of c.args.entry.now.attrs in
    let place = c.loop-place.place in
    let read = slot_read conf.slots c.slots-slot-items.result.now place c.slot-item.result c.slots-slot-items.ensures c.loop-place-test.true c.slot-item.is in
    record {
      same_conf = c.insert_under.ensures.same_conf ∙ c.loop-place.invariant.same_conf;
      came = one_slot (members c.args.self.now) (members c.loop-place.self) (members c.insert_under.new.self) c.args.number
          (λ p. nat_lt p.slot.0 place && set.contains (slot_keys conf attrs) p)
          (λ p. nat_eq place p.slot.0 && list_any (λ k. bytes_eq k p.key) c.of-keys.result)
          (λ p. nat_lt p.slot.0 (place + 1) && set.contains (slot_keys conf attrs) p)
          c.loop-place.invariant.came
          c.in_ok-count.ensures.ok
          (which place (set.contains (slot_keys conf attrs)) (λ q. list_any (λ k. bytes_eq k q) c.of-keys.result) (λ q. ap (λ (ks : List (List ℕ)). list_any (λ k. bytes_eq k q) ks) c.of-keys.ensures ∙ told_there conf attrs place c.slot-item.result read q));
      counted = λ start. c.in_ok-count.ensures.count (c.loop-place.invariant.counted start);
      all = came_counted same_slot_key itself slot_key_is (members c.args.self.now) (members c.loop-place.self) (members c.insert_under.new.self) c.args.self.now.edits c.loop-place.self.edits c.insert_under.new.self.edits
          c.loop-place.invariant.all c.insert_under.ensures.counted
          (grows_by (members c.args.self.now) (members c.loop-place.self) _ c.args.number c.loop-place.invariant.came)
          (grows_by (members c.loop-place.self) (members c.insert_under.new.self) _ c.args.number c.in_ok-count.ensures.ok);
      edited = let here = c.in_ok-count.ensures.edits in let was = c.loop-place.invariant.edited in omega (arith, here, was);
    }

pub returns-clause-ok : goal.returns-clause-ok
returns-clause-ok c =
    let conf = c.args.conf.now in
    let attrs = attributes_of c.args.entry.now.attrs in
    let end = all_read conf.slots c.slots-slot-items.result.now c.loop-place.place c.slots-slot-items.ensures c.loop-place-test.false c.loop-place.auto.place-end in
    λ p.
    c.loop-place.invariant.came p
    ∙ ap (λ b. cond b (set.insert (members c.args.self.now p) c.args.number) (members c.args.self.now p)) (ap (λ n. nat_lt p.slot.0 n && set.contains (slot_keys conf attrs) p) end ∙ known_key conf attrs p)

pub insert_under-requires : goal.insert_under-requires
insert_under-requires c =
    subst (λ (r : Conf). c.loop-place.place < length r.slots) (sym (c.loop-place.invariant.same_conf ∙ c.requires.same_conf))
    (subst (λ (ss : List Slot). c.loop-place.place < length ss) c.slots-slot-items.ensures c.loop-place-test.true)

pub loop-place-init : goal.loop-place-init
loop-place-init c = record {
  same_conf = refl;
  came = λ p. ap (λ b. cond (b && set.contains (slot_keys c.args.conf.now (attributes_of c.args.entry.now.attrs)) p) (set.insert (members c.args.self.now p) c.args.number) (members c.args.self.now p)) (sym (none_below p.slot.0));
  counted = λ start. start;
  all = none_counted same_slot_key itself slot_key_is (members c.args.self.now) (members c.args.self.now) c.args.self.now.edits c.args.self.now.edits (λ p. refl) refl;
  edited = omega arith;
}

pub returns-in_err-count-clause-err : goal.returns-in_err-count-clause-err
returns-in_err-count-clause-err c =
    let conf = c.args.conf.now in
    let attrs = attributes_of c.args.entry.now.attrs in
    let place = c.loop-place.place in
    let read = slot_read conf.slots c.slots-slot-items.result.now place c.slot-item.result c.slots-slot-items.ensures c.loop-place-test.true c.slot-item.is in
    on_err_too c.from_residual.result
    (then_some (set.contains (slot_keys conf attrs)) (λ p. nat_eq place p.slot.0 && list_any (λ k. bytes_eq k p.key) c.of-keys.result) c.args.number c.args.self.now c.loop-place.self c.insert_under.new.self
    (λ p h. (and_parts (nat_lt p.slot.0 (place + 1)) (set.contains (slot_keys conf attrs) p)
    (sym (which place (set.contains (slot_keys conf attrs)) (λ q. list_any (λ k. bytes_eq k q) c.of-keys.result) (λ q. ap (λ (ks : List (List ℕ)). list_any (λ k. bytes_eq k q) ks) c.of-keys.ensures ∙ told_there conf attrs place c.slot-item.result read q) p)
    ∙ or_right (nat_lt p.slot.0 place && set.contains (slot_keys conf attrs) p) (nat_eq place p.slot.0 && list_any (λ k. bytes_eq k p.key) c.of-keys.result) h)).1)
    (those_came (set.contains (slot_keys conf attrs)) (λ p. nat_lt p.slot.0 place && set.contains (slot_keys conf attrs) p) c.args.number c.args.self.now c.loop-place.self (λ p h. (and_parts (nat_lt p.slot.0 place) (set.contains (slot_keys conf attrs) p) h).1) c.loop-place.invariant.came)
    c.in_err-count.ensures.err)

pub returns-in_err-count-clause-counted : goal.returns-in_err-count-clause-counted
returns-in_err-count-clause-counted c =
    came_counted same_slot_key itself slot_key_is (members c.args.self.now) (members c.loop-place.self) (members c.insert_under.new.self) c.args.self.now.edits c.loop-place.self.edits c.insert_under.new.self.edits
    c.loop-place.invariant.all c.insert_under.ensures.counted
    (grows_by (members c.args.self.now) (members c.loop-place.self) _ c.args.number c.loop-place.invariant.came)
    (some_grow _ c.args.number c.loop-place.self c.insert_under.new.self c.in_err-count.ensures.err)

pub returns-clause-counted : goal.returns-clause-counted
returns-clause-counted c = c.loop-place.invariant.all
