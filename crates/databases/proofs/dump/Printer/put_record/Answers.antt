use Rattle.std.proofs.Common.{◌≡◌, ℕ, List, [], ◌∷◌, ◌++◌, sym, ap, ◌∙◌, subst, append_assoc}
use Rattle.std.specs.Prelude.{OnOk}
use Rattle.ldif.specs.Writing.{written_line_to}
use Rattle.schema.specs.Conf.{Conf}
use Rattle.tree.specs.Directories.{IsDirectory, name_of_entry}
use Rattle.entries.specs.StoredEntries.{content_of}
use Rattle.tree.specs.Trees.{Tree}
use Rattle.databases.specs.inner.Dumps.{AreKnown, selected_text, entry_text}
use Rattle.databases.proofs.EntryText.{entry_is, all_known}
use Rattle.databases.proofs.dump.Printer.put_record.Goals as goal

pub put_entry-requires : goal.put_entry-requires
put_entry-requires c =
    let d : Tree = c.args.self.now.tree.now in
    let is : IsDirectory d.conf d.entries = c.entries_are_a_directory.ensures in
    let attrs = c.args.entry.now.attrs in
    subst (λ (conf : Conf). AreKnown conf.types attrs) c.args.self.now.same_conf (all_known d.conf.types attrs (is.good c.args.path.now (content_of c.args.entry.now) c.requires.there).attrs)

pub returns-clause-text : goal.returns-clause-text
returns-clause-text c =
    let width = c.args.self.now.width in
    let d : Tree = c.args.self.now.tree.now in
    let p = c.args.path.now in
    let s = c.args.selection.now in
    let attrs = c.args.entry.now.attrs in
    let conf : Conf = c.args.self.now.conf.now in
    let name : c.as_slice.result.now ≡ name_of_entry d.conf d.entries p =
    c.as_slice.ensures ∙ c.in_ok-name.ensures.name ∙ ap (λ (t : Tree). name_of_entry t.conf t.entries p) c.requires.names in
    let is : c.args.out.now.items ++ written_line_to width (100 ∷ 110 ∷ []) c.as_slice.result.now ++ selected_text width conf.types s attrs ≡ c.args.out.now.items ++ entry_text width d.conf d.entries s (p, c.args.entry.now) =
    append_assoc c.args.out.now.items (written_line_to width (100 ∷ 110 ∷ []) c.as_slice.result.now) (selected_text width conf.types s attrs)
    ∙ ap (λ (bs : List ℕ). c.args.out.now.items ++ bs) (
    ap (λ (n : List ℕ). written_line_to width (100 ∷ 110 ∷ []) n ++ selected_text width conf.types s attrs) name
    ∙ ap (λ (r : Conf). written_line_to width (100 ∷ 110 ∷ []) (name_of_entry d.conf d.entries p) ++ selected_text width r.types s attrs) (sym c.args.self.now.same_conf)
    ∙ sym (entry_is width d.conf d.entries s p c.args.entry.now)) in
    subst (λ (t : List ℕ). OnOk c.put_entry.result (c.put_entry.new.out.items ≡ t)) is c.put_entry.ensures
