use Rattle.std.proofs.Common.{◌≡◌, [], inl, inr, refl, subst}
use Rattle.std.specs.Option.{option_copied}
use Rattle.std.proofs.lemmas.Result.{err_from_is_err_and}
use Rattle.schema.specs.Conf.{Conf}
use Rattle.commands.specs.DirectoryFiles.{index_name}
use Rattle.commands.specs.Checks.{AddsOver}
use Rattle.commands.specs.Worlds.{World, source_world}
use Rattle.commands.specs.inner.Checked.{ReportsIndex}
use Rattle.commands.proofs.check.gather.Goals as goal

pub returns-in_err-loaded-clause-fails : goal.returns-in_err-loaded-clause-fails
returns-in_err-loaded-clause-fails g c =
    let p = err_from_is_err_and c.from_residual.result c.from_residual.ensures.1 in
    rw (p.1, p.2) (λ w. inl (inr ((c.args.database.now.conf, c.requires.configured), inl c.in_err-loaded.ensures.err), refl))

pub returns-in_err-index-clause-fails : goal.returns-in_err-index-clause-fails
returns-in_err-index-clause-fails g c =
    let p = err_from_is_err_and c.from_residual-in_err-index.result c.from_residual-in_err-index.ensures.1 in
    rw (p.1, p.2) (λ w. inl (inr ((c.args.database.now.conf, c.requires.configured), inr c.in_err-index.ensures.err), refl))

pub returns-in_err-over-clause-fails : goal.returns-in_err-over-clause-fails
returns-in_err-over-clause-fails g c =
    let p = err_from_is_err_and c.from_residual-in_err-over.result c.from_residual-in_err-over.ensures.1 in
    rw (p.1, p.2) (λ w. inr ((c.args.database.now.conf, c.requires.configured), c.in_err-over.ensures.fails w))

pub returns-clause-gathers : goal.returns-clause-gathers
returns-clause-gathers g c = λ w.
    let asked = c.args.asked.now in
    let files = g.F.Folder.files c.args.folder.now in
    let start : World = source_world w g.F.Folder.files g.S.Source.seen c.args.folder.now c.args.input.now in
    let end : World = source_world w g.F.Folder.files g.S.Source.seen c.args.folder.now c.add_over.new.input in
    let loaded = c.load_records.new.database.entries in
    let same : c.load_records.new.database.conf ≡ c.args.database.now.conf = c.in_ok-loaded.ensures.same_conf in
    record {
      loaded = loaded;
      adds = c.in_ok-loaded.ensures.adds;
      index = subst (λ (conf : Conf). ReportsIndex files (index_name asked.db.now) conf loaded [] c.in_ok-index.index.items) same c.in_ok-index.ensures.reports;
      over = subst (λ (conf : Conf). AddsOver (option_copied asked.file) conf loaded c.add_over.new.database.entries c.in_ok-over.over.items start end) same (c.in_ok-over.ensures.adds w);
    }
