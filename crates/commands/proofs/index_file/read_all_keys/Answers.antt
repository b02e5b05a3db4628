use Rattle.std.proofs.Common.{◌≡◌, ℕ, List, length, Some, refl, sym, ap, ◌∙◌, subst, rules}
use Rattle.std.specs.Prelude.{Ok, Err}
use Rattle.std.specs.List.{AllByRecursion}
use Rattle.base.specs.Answers.{Fails}
use Rattle.std.specs.FinMap as finite
use Rattle.schema.specs.Conf.{IsConf}
use Rattle.tree.specs.Trees.{Tree}
use Rattle.tree.specs.Directories.{IsDirectory}
use Rattle.databases.specs.IndexTexts.{stamp}
use Rattle.stored_index.specs.Gives.{fault_of}
use Rattle.stored_index.specs.Rows.{IsByte}
use Rattle.stored_index.specs.Stored.{index_in}
use Rattle.stored_index.specs.declared.fault.IndexFault.{IndexFault}
use Rattle.commands.proofs.IndexTold.{read_so, said_so, true_so, answered}
use Rattle.commands.proofs.index_file.read_all_keys.Goals as goal

pub returns-in-Ok-read_index-clause-read : goal.returns-in-Ok-read_index-clause-read
returns-in-Ok-read_index-clause-read g c = λ files db there.
    let d = c.args.database.now in
    let h = c.in-Ok-read_index.ensures.ok in
    let whole = c.in-Ok-read_index.stored in
    let is : c.in-Ok.stamp ≡ stamp d.conf d.entries = c.in-Ok.ensures in
    let long : length c.in-Ok.stamp ≡ 32 = search rules in
    let bytes : AllByRecursion IsByte c.in-Ok.stamp = c.are_bytes.ensures in
    record {
      said = Some (Ok whole);
      in_file = said_so files db d.conf d.entries h.text (Ok whole) (read_so files _ _ h.text there h.left_is)
          (answered d.conf d.conf d.entries (finite.len d.entries) c.in-Ok.stamp h.text (Ok whole) refl refl is h.says);
      kept = (
        refl,
        true_so d.conf d.entries whole
            (c.kept_index_texts_are_read.ensures.read d.conf d.entries (subst IsConf c.conf-conf.ensures c.rules_are_kept.ensures) (subst (λ (t : Tree). IsDirectory t.conf t.entries) c.tree-tree.ensures c.entries_are_a_directory.ensures) (ap (λ (s : List ℕ). length s) (sym is) ∙ long) (subst (AllByRecursion IsByte) is bytes))
            (c.kept_index_texts_are_read.ensures.shows d.conf d.entries)
            (λ shown. c.index_texts_reflect_dumps.ensures d.conf d.entries shown),
      );
    }

pub returns-in-Err-Fault-clause-read : goal.returns-in-Err-Fault-clause-read
returns-in-Err-Fault-clause-read g c = λ files db there.
    let d = c.args.database.now in
    let h = c.in-Err-Fault.ensures.err in
    let is : c.in-Ok.stamp ≡ stamp d.conf d.entries = c.in-Ok.ensures in
    let says = subst (λ (e : IndexFault). Fails (fault_of e) (index_in d.conf (finite.len d.entries) c.in-Ok.stamp h.text)) c.in-Err-Fault.field-0-is h.says in
    record {
      said = Some (Err c.in-Err-Fault.kind);
      in_file = said_so files db d.conf d.entries h.text (Err c.in-Err-Fault.kind) (read_so files _ _ h.text there h.left_is)
          (answered d.conf d.conf d.entries (finite.len d.entries) c.in-Ok.stamp h.text (Err c.in-Err-Fault.kind) refl refl is says);
      kept = refl;
    }
