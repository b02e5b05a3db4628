use Rattle.std.proofs.Common.{subst}
use Rattle.schema.specs.Conf.{Conf, IsConf}
use Rattle.tree.specs.Directories.{IsDirectory}
use Rattle.tree.specs.Trees.{Tree}
use Rattle.differences.proofs.writing.write_difference.Goals as goal

pub returns-clause-leads : goal.returns-clause-leads
returns-clause-leads g c = λ extent go_on goal is directory may.
    let conf = c.args.before.now.conf in
    let b = c.args.after.now.entries in
    c.changes_lead_by_text.ensures conf extent c.args.before.now.entries b goal go_on
    (subst IsConf c.conf.ensures c.rules_are_kept.ensures)
    (subst (λ (t : Tree). IsDirectory t.conf t.entries) c.tree.ensures c.entries_are_a_directory.ensures)
    (subst (λ (k : Conf). IsDirectory k b) c.requires.conf c.entries_are_a_directory-2.ensures) is directory may
