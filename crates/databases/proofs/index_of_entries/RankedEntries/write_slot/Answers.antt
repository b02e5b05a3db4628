use Rattle.std.proofs.Common.{◌≡◌, ℕ, List, ◌++◌, ap, ◌∙◌, subst, append_assoc}
use Rattle.schema.specs.Conf.{Conf}
use Rattle.tree.specs.Directories.{Entries}
use Rattle.index_text.specs.IndexTexts.{ended, slot_line}
use Rattle.ldif.specs.Written.{WritesOn}
use Rattle.databases.specs.IndexTexts.{slot_lines, keys_lines}
use Rattle.databases.proofs.Pieces.{wants_memory_on}
use Rattle.databases.proofs.index_of_entries.RankedEntries.write_slot.Goals as goal

pub returns-in_err-put_slot : goal.returns-in_err-put_slot
returns-in_err-put_slot g c = wants_memory_on c.from_residual.result c.from_residual.ensures.1 (g.W.Sink.written c.args.sink.now) (c.args.text.now.items ++ slot_lines c.args.self.now.database.now.conf c.args.self.now.database.now.entries c.args.slot.now) _

pub returns : goal.returns
returns g c =
    let conf : Conf = c.args.self.now.database.now.conf in
    let d : Entries = c.args.self.now.database.now.entries in
    let text : List ℕ = c.args.text.now.items in
    let line : List ℕ = ended (slot_line conf.types c.args.slot.now) in
    let keys : List ℕ = keys_lines conf d c.args.slot.now in
    let put : c.put_slot.new.out.items ≡ text ++ line =
    c.in_ok-put_slot.ensures.put ∙ ap (λ (r : Conf). text ++ ended (slot_line r.types c.args.slot.now)) c.conf.ensures in
    subst (λ (bs : List ℕ). WritesOn c.write_keys.result (g.W.Sink.written c.args.sink.now) (g.W.Sink.written c.write_keys.new.sink) bs c.write_keys.new.text.items)
    (ap (λ (bs : List ℕ). bs ++ keys) put ∙ append_assoc text line keys)
    c.write_keys.ensures
