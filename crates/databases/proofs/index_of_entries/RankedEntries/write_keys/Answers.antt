use Rattle.std.proofs.Common.{◌≡◌, ℕ, List, ◌++◌, ap, ◌∙◌, subst}
use Rattle.std.specs.Prelude.{Result}
use Rattle.device.specs.Device.{Written}
use Rattle.ldif.specs.declared.write.WriteFault.{WriteFault}
use Rattle.schema.specs.declared.slots.IndexKind.TheVariants.{Equality, Presence, Substrings}
use Rattle.schema.specs.Conf.{Conf}
use Rattle.tree.specs.Directories.{Entries}
use Rattle.index_keys.specs.Pairs.{norm_pairs, window_pairs}
use Rattle.index_keys.specs.RankedKeys.{rows_text}
use Rattle.ldif.specs.Written.{WritesOn}
use Rattle.databases.specs.IndexTexts.{keys_lines}
use Rattle.databases.proofs.Pieces.{wants_memory_on}
use Rattle.databases.proofs.SortedRows.{lines_same}
use Rattle.databases.proofs.index_of_entries.RankedEntries.write_keys.Goals as goal

-- rows that are the lines that are wanted
as_lines : (answer : Result (Unit {0}) WriteFault) (a b : Written) (text rows lines left : List ℕ) → rows ≡ lines → WritesOn answer a b (text ++ rows) left → WritesOn answer a b (text ++ lines) left
as_lines answer a b text rows lines left same written = subst (λ (bs : List ℕ). WritesOn answer a b (text ++ bs) left) same written

pub returns-in_err-bytes-in-Equality : goal.returns-in_err-bytes-in-Equality
returns-in_err-bytes-in-Equality g c = wants_memory_on c.from_residual.result c.from_residual.ensures.1 (g.W.Sink.written c.args.sink.now) (c.args.text.now.items ++ keys_lines c.args.self.now.database.now.conf c.args.self.now.database.now.entries c.args.slot.now) _

pub returns-in_err-keys-in-Equality : goal.returns-in_err-keys-in-Equality
returns-in_err-keys-in-Equality g c = wants_memory_on c.from_residual-in_err-keys-in-Equality.result c.from_residual-in_err-keys-in-Equality.ensures.1 (g.W.Sink.written c.args.sink.now) (c.args.text.now.items ++ keys_lines c.args.self.now.database.now.conf c.args.self.now.database.now.entries c.args.slot.now) _

pub returns-in_ok-keys-in-Equality : goal.returns-in_ok-keys-in-Equality
returns-in_ok-keys-in-Equality g c =
    let conf : Conf = c.args.self.now.database.now.conf in
    let d : Entries = c.args.self.now.database.now.entries in
    let keys = c.in_ok-keys-in-Equality.keys.items in
    as_lines c.write_rows.result (g.W.Sink.written c.args.sink.now) (g.W.Sink.written c.write_rows.new.sink) c.args.text.now.items (rows_text (norm_pairs c.as_slice-in-Equality.result.now)) (keys_lines conf d c.args.slot.now) c.write_rows.new.text.items
    (ap (λ ks. rows_text (norm_pairs ks)) c.as_slice-in-Equality.ensures.value ∙ lines_same conf d c.args.slot.now Equality c.args.self.now.entries.now c.args.norms.now (norm_pairs keys) c.in-Equality.is c.requires.ranked c.requires.norms c.in_ok-keys-in-Equality.ensures)
    c.write_rows.ensures

pub returns-in_err-keys-in-Presence : goal.returns-in_err-keys-in-Presence
returns-in_err-keys-in-Presence g c = wants_memory_on c.from_residual-in_err-keys-in-Presence.result c.from_residual-in_err-keys-in-Presence.ensures.1 (g.W.Sink.written c.args.sink.now) (c.args.text.now.items ++ keys_lines c.args.self.now.database.now.conf c.args.self.now.database.now.entries c.args.slot.now) _

pub returns-in_ok-keys-in-Presence : goal.returns-in_ok-keys-in-Presence
returns-in_ok-keys-in-Presence g c =
    let conf : Conf = c.args.self.now.database.now.conf in
    let d : Entries = c.args.self.now.database.now.entries in
    let keys = c.in_ok-keys-in-Presence.keys.items in
    as_lines c.write_rows-in-Presence.result (g.W.Sink.written c.args.sink.now) (g.W.Sink.written c.write_rows-in-Presence.new.sink) c.args.text.now.items (rows_text (norm_pairs c.as_slice-in-Presence.result.now)) (keys_lines conf d c.args.slot.now) c.write_rows-in-Presence.new.text.items
    (ap (λ ks. rows_text (norm_pairs ks)) c.as_slice-in-Presence.ensures.value ∙ lines_same conf d c.args.slot.now Presence c.args.self.now.entries.now c.args.norms.now (norm_pairs keys) c.in-Presence.is c.requires.ranked c.requires.norms c.in_ok-keys-in-Presence.ensures)
    c.write_rows-in-Presence.ensures

pub returns-in_err-keys-in-Substrings : goal.returns-in_err-keys-in-Substrings
returns-in_err-keys-in-Substrings g c = wants_memory_on c.from_residual-in_err-keys-in-Substrings.result c.from_residual-in_err-keys-in-Substrings.ensures.1 (g.W.Sink.written c.args.sink.now) (c.args.text.now.items ++ keys_lines c.args.self.now.database.now.conf c.args.self.now.database.now.entries c.args.slot.now) _

pub returns-in_ok-keys-in-Substrings : goal.returns-in_ok-keys-in-Substrings
returns-in_ok-keys-in-Substrings g c =
    let conf : Conf = c.args.self.now.database.now.conf in
    let d : Entries = c.args.self.now.database.now.entries in
    let keys = c.in_ok-keys-in-Substrings.keys.items in
    as_lines c.write_rows-in-Substrings.result (g.W.Sink.written c.args.sink.now) (g.W.Sink.written c.write_rows-in-Substrings.new.sink) c.args.text.now.items (rows_text (window_pairs c.as_slice-in-Substrings.result.now)) (keys_lines conf d c.args.slot.now) c.write_rows-in-Substrings.new.text.items
    (ap (λ ks. rows_text (window_pairs ks)) c.as_slice-in-Substrings.ensures.value ∙ lines_same conf d c.args.slot.now Substrings c.args.self.now.entries.now c.args.norms.now (window_pairs keys) c.in-Substrings.is c.requires.ranked c.requires.norms c.in_ok-keys-in-Substrings.ensures)
    c.write_rows-in-Substrings.ensures
