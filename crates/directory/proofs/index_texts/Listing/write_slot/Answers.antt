use Rattle.std.proofs.Common.{◌≡◌, ℕ, ◌<◌, List, ◌++◌, length, sym, ap, ◌∙◌, subst, append_assoc}
use Rattle.std.specs.List.{flat_map}
use Rattle.std.proofs.lemmas.Option.{slice_get_within}
use Rattle.schema.specs.Conf.{Conf}
use Rattle.tree.specs.Directories.{IsDirectory}
use Rattle.tree.specs.Trees.{Tree, IsNumbered}
use Rattle.directory.specs.Directories.{tree_of}
use Rattle.tree.proofs.Order.{path_total}
use Rattle.index_text.specs.IndexTexts.{ended, slot_line, key_line}
use Rattle.databases.specs.IndexTexts.{slot_rows, contents, slot_lines}
use Rattle.ldif.specs.Written.{WritesOn}
use Rattle.directory.specs.inner.IndexRows.{rows_text}
use Rattle.directory.proofs.IndexRows.{lines_are}
use Rattle.databases.proofs.Pieces.{wants_memory_on}
use Rattle.directory.proofs.index_texts.Listing.write_slot.Goals as goal

pub returns-in_err-put_slot : goal.returns-in_err-put_slot
returns-in_err-put_slot g c = wants_memory_on c.from_residual.result c.from_residual.ensures.1 (g.W.Sink.written c.args.sink.now) (c.args.text.now.items ++ slot_lines c.args.self.now.directory.now.conf c.args.self.now.directory.now.entries c.args.slot.now) _

pub keys-keys-requires : goal.keys-keys-requires
keys-keys-requires g c =
    subst (λ (n : ℕ). c.args.place < n) (ap (λ (r : Conf). length r.slots) (sym c.index-index.ensures.same_conf))
    (slice_get_within c.args.self.now.directory.now.conf.slots c.args.place c.args.slot.now c.requires.place)

pub returns : goal.returns
returns g c =
    let conf : Conf = c.args.self.now.directory.now.conf in
    let t : Tree = tree_of c.args.self.now.directory.now in
    let text : List ℕ = c.args.text.now.items in
    let line : List ℕ = ended (slot_line conf.types c.args.slot.now) in
    let put : c.put_slot.new.out.items ≡ text ++ line = c.in_ok-put_slot.ensures.put ∙ ap (λ (r : Conf). text ++ ended (slot_line r.types c.args.slot.now)) c.conf-conf.ensures in
    let rows : List ℕ = rows_text c.args.self.now.ranks.now c.keys-keys.result in
    let is : rows ≡ flat_map (λ row. ended (key_line row)) (slot_rows conf.types (contents t.entries) c.args.slot.now) =
    lines_are conf t c.index-index.result.now c.args.self.now.ranks.now c.index-index.ensures path_total (subst (λ (x : Tree). IsNumbered x.entries x.numbers) c.tree-tree.ensures c.entries_are_numbered.ensures) (subst (λ (x : Tree). IsDirectory x.conf x.entries) c.tree-tree.ensures c.entries_are_a_directory.ensures) c.requires.ranked c.args.place c.args.slot.now c.requires.place c.keys-keys.result c.keys-keys.ensures in
    subst (λ (bs : List ℕ). WritesOn c.write_rows.result (g.W.Sink.written c.args.sink.now) (g.W.Sink.written c.write_rows.new.sink) bs c.write_rows.new.text.items)
    (ap (λ (bs : List ℕ). bs ++ rows) put ∙ append_assoc text line rows ∙ ap (λ (bs : List ℕ). text ++ (line ++ bs)) is)
    c.write_rows.ensures
