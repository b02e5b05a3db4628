use Rattle.std.proofs.Common.{◌≡◌, ℕ, ◌+◌, List, ◌++◌, drop, refl, sym, ap, ◌∙◌, subst, arith}
use Rattle.std.proofs.lemmas.Grind.{common_steps}
use Rattle.std.specs.Prelude.{IfSome}
use Rattle.std.proofs.Math.ListN.{drop_of_length-le}
use Rattle.std.proofs.lemmas.List.{append-nil}
use Rattle.std.proofs.lemmas.Result.{err_from_is_err_and}
use Rattle.index_keys.specs.TypeNorms.{AreNormsOf}
use Rattle.schema.specs.declared.slots.Slot.{Slot}
use Rattle.schema.specs.Conf.{Conf}
use Rattle.tree.specs.Directories.{Entries}
use Rattle.ldif.specs.Written.{SoFar}
use Rattle.databases.specs.IndexTexts.{slot_lines, slots_lines}
use Rattle.databases.proofs.Pieces.{nothing_yet}
use Rattle.databases.proofs.WrittenLines.{further, stopped, next_slot}
use Rattle.databases.proofs.index_of_entries.RankedEntries.write_slots.Goals as goal

pub loop-slot-init : goal.loop-slot-init
loop-slot-init g c =
    let conf : Conf = c.args.self.now.database.now.conf in
    let d : Entries = c.args.self.now.database.now.entries in
    let text : List ℕ = c.args.text.now.items in
    record {
      failures = refl;
      kept = tt;
      so_far = nothing_yet (g.W.Sink.written c.args.sink.now) (text ++ slots_lines conf d conf.slots) (text ++ slots_lines conf d c.slots-slot-items.result.now) (ap (λ (ss : List Slot). text ++ slots_lines conf d ss) (c.slots-slot-items.ensures ∙ ap (λ (r : Conf). r.slots) c.conf-conf.ensures));
    }

pub returns-in_err-write_slot : goal.returns-in_err-write_slot
returns-in_err-write_slot g c =
    let p = err_from_is_err_and c.from_residual-in_err-write_slot.result c.from_residual-in_err-write_slot.ensures.1 in
    let conf : Conf = c.args.self.now.database.now.conf in
    let d : Entries = c.args.self.now.database.now.entries in
    let slots : List Slot = c.slots-slot-items.result.now in
    let place : ℕ = c.loop-slot.slot-index in
    rw (p.1, p.2) (stopped (g.W.Sink.written c.args.sink.now) (g.W.Sink.written c.loop-slot.sink) (g.W.Sink.written c.write_slot.new.sink)
    (c.args.text.now.items ++ slots_lines conf d conf.slots) c.loop-slot.text.items (slots_lines conf d (drop place slots)) (slot_lines conf d c.slot-item.result) (slots_lines conf d (drop (place + 1) slots))
    c.loop-slot.invariant.so_far (next_slot conf d slots place c.slot-item.result c.loop-slot-test.true c.slot-item.is) c.in_err-write_slot.field-0.0 c.in_err-write_slot.ensures)

pub loop-slot-preserved : goal.loop-slot-preserved
loop-slot-preserved g c =
    let conf : Conf = c.args.self.now.database.now.conf in
    let d : Entries = c.args.self.now.database.now.entries in
    let slots : List Slot = c.slots-slot-items.result.now in
    let place : ℕ = c.loop-slot.slot-index in
    record {
      failures = c.in_ok-write_slot.ensures.written.failed ∙ c.loop-slot.invariant.failures;
      kept = subst (λ (r : Conf). AreNormsOf r.types c.args.self.now.entries.now c.in_ok-of_type.of_type.type_id c.in_ok-of_type.of_type.norms.items) c.conf-conf.ensures c.in_ok-of_type.ensures.norms;
      so_far = further (g.W.Sink.written c.args.sink.now) (g.W.Sink.written c.loop-slot.sink) (g.W.Sink.written c.write_slot.new.sink)
          (c.args.text.now.items ++ slots_lines conf d conf.slots) c.loop-slot.text.items (slots_lines conf d (drop place slots)) (slot_lines conf d c.slot-item.result) (slots_lines conf d (drop (place + 1) slots))
          c.loop-slot.invariant.so_far (next_slot conf d slots place c.slot-item.result c.loop-slot-test.true c.slot-item.is) c.write_slot.new.text.items c.in_ok-write_slot.ensures;
    }

pub returns : goal.returns
returns g c =
    let conf : Conf = c.args.self.now.database.now.conf in
    let d : Entries = c.args.self.now.database.now.entries in
    let text : List ℕ = c.loop-slot.text.items in
    let past = c.loop-slot-test.false in
    let none : text ++ slots_lines conf d (drop c.loop-slot.slot-index c.slots-slot-items.result.now) ≡ text =
    ap (λ (ss : List Slot). text ++ slots_lines conf d ss) (drop_of_length-le c.slots-slot-items.result.now (omega (arith, past))) ∙ append-nil text in
    subst (SoFar (g.W.Sink.written c.args.sink.now) (g.W.Sink.written c.loop-slot.sink) (c.args.text.now.items ++ slots_lines conf d conf.slots)) none c.loop-slot.invariant.so_far

pub write_slot-requires-clause-known : goal.write_slot-requires-clause-known
write_slot-requires-clause-known g c = grind (arith, common_steps)

pub write_slot-requires-clause-norms : goal.write_slot-requires-clause-norms
write_slot-requires-clause-norms g c =
    subst (λ t. AreNormsOf c.args.self.now.database.now.conf.types c.args.self.now.entries.now t c.as_slice.result.now) c.in_ok-of_type.ensures.of_type
    (subst (λ ns. AreNormsOf c.args.self.now.database.now.conf.types c.args.self.now.entries.now c.in_ok-of_type.of_type.type_id ns) (sym c.as_slice.ensures.value)
    (subst (λ (r : Conf). AreNormsOf r.types c.args.self.now.entries.now c.in_ok-of_type.of_type.type_id c.in_ok-of_type.of_type.norms.items) c.conf-conf.ensures c.in_ok-of_type.ensures.norms))

pub norms_for-requires-clause-kept : goal.norms_for-requires-clause-kept
norms_for-requires-clause-kept g c =
    subst (λ (r : Conf). IfSome c.loop-slot.kept (λ k. AreNormsOf r.types c.args.self.now.entries.now k.type_id k.norms.items)) (sym c.conf-conf.ensures) c.loop-slot.invariant.kept
