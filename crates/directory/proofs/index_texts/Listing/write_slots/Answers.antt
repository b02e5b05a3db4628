use Rattle.std.proofs.Common.{◌≡◌, ℕ, ◌+◌, ◌<◌, ◌^◌, ◌-◌, List, ◌++◌, drop, Some, refl, ap, sym, ◌∙◌, subst, arith}
use Rattle.std.specs.List.{slice_get}
use Rattle.std.proofs.Math.ListN.{drop_of_length-le}
use Rattle.std.proofs.lemmas.List.{append-nil}
use Rattle.std.proofs.lemmas.Option.{slice_get-get_or}
use Rattle.std.proofs.lemmas.Result.{err_from_is_err_and}
use Rattle.schema.specs.declared.slots.Slot.{Slot}
use Rattle.schema.specs.Conf.{Conf}
use Rattle.tree.specs.Directories.{Entries}
use Rattle.ldif.specs.Written.{SoFar}
use Rattle.databases.specs.IndexTexts.{slot_lines, slots_lines}
use Rattle.databases.proofs.Pieces.{nothing_yet}
use Rattle.databases.proofs.WrittenLines.{further, stopped, next_slot}
use Rattle.directory.proofs.index_texts.Listing.write_slots.Goals as goal

pub loop-place-init : goal.loop-place-init
loop-place-init g c =
    let conf : Conf = c.args.self.now.directory.now.conf in
    let d : Entries = c.args.self.now.directory.now.entries in
    let text : List ℕ = c.args.text.now.items in
    record {
      failures = refl;
      so_far = nothing_yet (g.W.Sink.written c.args.sink.now) (text ++ slots_lines conf d conf.slots) (text ++ slots_lines conf d c.slots-slot-items.result.now) (ap (λ (ss : List Slot). text ++ slots_lines conf d ss) (c.slots-slot-items.ensures ∙ ap (λ (r : Conf). r.slots) c.conf-conf.ensures));
    }

pub write_slot-requires-clause-can_fail : goal.write_slot-requires-clause-can_fail
write_slot-requires-clause-can_fail g c = subst (λ (n : ℕ). n < 2 ^ 64 - 1) (sym c.loop-place.invariant.failures) c.requires.can_fail

pub write_slot-requires-clause-place : goal.write_slot-requires-clause-place
write_slot-requires-clause-place g c =
    ap (λ (ss : List Slot). slice_get ss c.loop-place.place) (sym (c.slots-slot-items.ensures ∙ ap (λ (r : Conf). r.slots) c.conf-conf.ensures))
    ∙ slice_get-get_or c.slots-slot-items.result.now c.loop-place.place c.slot-item.result c.loop-place-test.true
    ∙ ap (λ (s : Slot). Some s) (sym c.slot-item.is)

pub returns-in_err-write_slot : goal.returns-in_err-write_slot
returns-in_err-write_slot g c =
    let p = err_from_is_err_and c.from_residual.result c.from_residual.ensures.1 in
    let conf : Conf = c.args.self.now.directory.now.conf in
    let d : Entries = c.args.self.now.directory.now.entries in
    let slots : List Slot = c.slots-slot-items.result.now in
    let place : ℕ = c.loop-place.place in
    rw (p.1, p.2) (stopped (g.W.Sink.written c.args.sink.now) (g.W.Sink.written c.loop-place.sink) (g.W.Sink.written c.write_slot.new.sink)
    (c.args.text.now.items ++ slots_lines conf d conf.slots) c.loop-place.text.items (slots_lines conf d (drop place slots)) (slot_lines conf d c.slot-item.result) (slots_lines conf d (drop (place + 1) slots))
    c.loop-place.invariant.so_far (next_slot conf d slots place c.slot-item.result c.loop-place-test.true c.slot-item.is) c.in_err-write_slot.field-0.0 c.in_err-write_slot.ensures)

pub loop-place-preserved : goal.loop-place-preserved
loop-place-preserved g c =
    let conf : Conf = c.args.self.now.directory.now.conf in
    let d : Entries = c.args.self.now.directory.now.entries in
    let slots : List Slot = c.slots-slot-items.result.now in
    let place : ℕ = c.loop-place.place in
    record {
      failures = c.in_ok-write_slot.ensures.written.failed ∙ c.loop-place.invariant.failures;
      so_far = further (g.W.Sink.written c.args.sink.now) (g.W.Sink.written c.loop-place.sink) (g.W.Sink.written c.write_slot.new.sink)
          (c.args.text.now.items ++ slots_lines conf d conf.slots) c.loop-place.text.items (slots_lines conf d (drop place slots)) (slot_lines conf d c.slot-item.result) (slots_lines conf d (drop (place + 1) slots))
          c.loop-place.invariant.so_far (next_slot conf d slots place c.slot-item.result c.loop-place-test.true c.slot-item.is) c.write_slot.new.text.items c.in_ok-write_slot.ensures;
    }

pub returns : goal.returns
returns g c =
    let conf : Conf = c.args.self.now.directory.now.conf in
    let d : Entries = c.args.self.now.directory.now.entries in
    let text : List ℕ = c.loop-place.text.items in
    let past = c.loop-place-test.false in
    let none : text ++ slots_lines conf d (drop c.loop-place.place c.slots-slot-items.result.now) ≡ text =
    ap (λ (ss : List Slot). text ++ slots_lines conf d ss) (drop_of_length-le c.slots-slot-items.result.now (omega (arith, past))) ∙ append-nil text in
    subst (SoFar (g.W.Sink.written c.args.sink.now) (g.W.Sink.written c.loop-place.sink) (c.args.text.now.items ++ slots_lines conf d conf.slots)) none c.loop-place.invariant.so_far
