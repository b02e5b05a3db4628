use Rattle.std.proofs.Common.{◌≡◌, ◌∙◌, ◌++◌, subst}
use Rattle.std.specs.Option.{option_copied}
use Rattle.schema.specs.Conf.{Conf}
use Rattle.commands.specs.Checks.{value_reports, CheckFails}
use Rattle.commands.specs.Worlds.{World, source_world}
use Rattle.commands.specs.inner.Checked.{told_reports, HasGathered}
use Rattle.commands.proofs.Checked.{others_told, want_behind}
use Rattle.commands.proofs.Stopping.{of_memory}
use Rattle.commands.proofs.check.check_under.Goals as goal

pub returns-in-Ok-clause-checks : goal.returns-in-Ok-clause-checks
returns-in-Ok-clause-checks g c = λ w.
    let asked = c.args.asked.now in
    let types = c.args.types.now in
    let told = c.in_ok-told.told in
    let d = c.gather.new.database.entries in
    let first = c.new-database.ensures.same_conf in
    let same : c.gather.new.database.conf ≡ c.args.conf = c.in_ok-told.ensures.same_conf ∙ first in
    let text = c.in-Ok.reports.items in
    let start : World = source_world w g.F.Folder.files g.S.Source.seen c.args.folder.now c.args.input.now in
    let end : World = source_world w g.F.Folder.files g.S.Source.seen c.args.folder.now c.gather.new.input in
    others_told asked start end c.args.conf types d told text c.requires.configured c.requires.types
    (subst (λ (conf : Conf). HasGathered asked conf d told start end) first (c.in_ok-told.ensures.gathers w))
    (subst (λ (conf : Conf). text ≡ told_reports (option_copied asked.file) told ++ value_reports conf d types.references.items types.unique.items) same c.in-Ok.ensures.reports)

pub returns-clause-fails : goal.returns-clause-fails
returns-clause-fails g c = λ w.
    let asked = c.args.asked.now in
    let told = c.in_ok-told.told in
    let d = c.gather.new.database.entries in
    let first = c.new-database.ensures.same_conf in
    let start : World = source_world w g.F.Folder.files g.S.Source.seen c.args.folder.now c.args.input.now in
    let end : World = source_world w g.F.Folder.files g.S.Source.seen c.args.folder.now c.gather.new.input in
    let gathered : HasGathered asked c.args.conf d told start end = subst (λ (conf : Conf). HasGathered asked conf d told start end) first (c.in_ok-told.ensures.gathers w) in
    of_memory (λ f. CheckFails asked f start end) (want_behind asked c.args.conf gathered.loaded d told.over.items start end c.requires.configured gathered.over) c.in-Err.fault c.in-Err.ensures.memory
