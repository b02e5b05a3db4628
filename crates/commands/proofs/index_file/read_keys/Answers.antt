use Rattle.std.proofs.Common.{◌≡◌, ℕ, List, length, Some, refl, sym, ap, ◌∙◌, subst, rules}
use Rattle.std.specs.Prelude.{Ok, Err}
use Rattle.std.specs.List.{AllByRecursion}
use Rattle.base.specs.Answers.{Fails}
use Rattle.std.specs.FinMap as finite
use Rattle.schema.specs.Conf.{IsConf}
use Rattle.tree.specs.Trees.{Tree}
use Rattle.tree.specs.Directories.{IsDirectory}
use Rattle.stored_index.specs.Gives.{fault_of}
use Rattle.stored_index.specs.Rows.{IsByte}
use Rattle.stored_index.specs.Stored.{index_in}
use Rattle.stored_index.specs.declared.fault.IndexFault.{IndexFault}
use Rattle.commands.proofs.IndexTold.{read_so, said_so, read_under, shows_to, true_so, faulty_true, answered}
use Rattle.commands.proofs.index_file.read_keys.Goals as goal

pub returns-in-Ok-clause-read : goal.returns-in-Ok-clause-read
returns-in-Ok-clause-read g c = λ files db there.
    let d = c.args.database.now in
    let conf = c.conf-conf.result.now in
    let h = c.in-Ok.ensures.ok in
    let whole = h.says.0 in
    let is = h.says.1 in
    let long : length c.args.stamp ≡ 32 = search rules in
    let bytes : AllByRecursion IsByte c.args.stamp = c.are_bytes.ensures in
    record {
      said = Some (Ok whole);
      in_file = said_so files db d.conf d.entries h.text (Ok whole)
          (read_so files _ _ h.text there h.left_is)
          (answered d.conf conf d.entries c.len.result c.args.stamp h.text (Ok whole) (sym c.conf-conf.ensures) (c.len.ensures ∙ ap (λ (t : Tree). finite.len t.entries) c.tree-tree.ensures) c.requires.stamp is);
      kept = record {
        says = (whole, refl, shows_to c.args.filter.now d.conf c.args.asked.now whole c.in-Ok.stored c.requires.asked (read_under conf c.len.result c.args.stamp h.text whole is ∙ c.conf-conf.ensures) h.says.2);
        is_true = true_so d.conf d.entries whole
            (c.kept_index_texts_are_read.ensures.read d.conf d.entries (subst IsConf c.conf-conf.ensures c.rules_are_kept.ensures) (subst (λ (t : Tree). IsDirectory t.conf t.entries) c.tree-tree.ensures c.entries_are_a_directory.ensures) (ap (λ (s : List ℕ). length s) (sym c.requires.stamp) ∙ long) (subst (AllByRecursion IsByte) c.requires.stamp bytes))
            (c.kept_index_texts_are_read.ensures.shows d.conf d.entries)
            (λ shown. c.index_texts_reflect_dumps.ensures d.conf d.entries shown);
      };
    }

pub returns-in-Err-Fault-clause-read : goal.returns-in-Err-Fault-clause-read
returns-in-Err-Fault-clause-read g c = λ files db there.
    let d = c.args.database.now in
    let conf = c.conf-conf.result.now in
    let h = c.in-Err-Fault.ensures.err in
    let says = subst (λ (e : IndexFault). Fails (fault_of e) (index_in conf c.len.result c.args.stamp h.text)) c.in-Err-Fault.field-0-is h.says in
    record {
      said = Some (Err c.in-Err-Fault.kind);
      in_file = said_so files db d.conf d.entries h.text (Err c.in-Err-Fault.kind)
          (read_so files _ _ h.text there h.left_is)
          (answered d.conf conf d.entries c.len.result c.args.stamp h.text (Err c.in-Err-Fault.kind) (sym c.conf-conf.ensures) (c.len.ensures ∙ ap (λ (t : Tree). finite.len t.entries) c.tree-tree.ensures) c.requires.stamp says);
      kept = record { says = refl; is_true = faulty_true d.conf d.entries c.in-Err-Fault.kind };
    }
