use Rattle.std.proofs.Common.{refl, sym, ap, subst, ◌∙◌}
use Rattle.std.specs.Option.{option_copied}
use Rattle.std.proofs.lemmas.Result.{err_from_is_err_and}
use Rattle.filter_text.specs.Spells.{view}
use Rattle.filter.specs.Made.{Made}
use Rattle.commands.specs.Asked.{IsFilter}
use Rattle.commands.specs.DirectoryFiles.{index_name}
use Rattle.commands.specs.Prints.{search_wanted}
use Rattle.commands.proofs.Searched.{stopped_at_once}
use Rattle.commands.proofs.Stopping.{index_stops, unread_first, each_reports}
use Rattle.commands.proofs.searching.search_directory.Goals as goal

pub returns-clause-ends : goal.returns-clause-ends
returns-clause-ends g c = λ w. c.search_by-ended.ensures.ends (record w { files = g.F.Folder.files c.args.folder.now }) (record {
  filter_is = subst (λ (m : Made). IsFilter (option_copied c.args.asked.now.filter) (view m.filter)) (sym c.in_ok-prepared.ensures) c.requires.filter;
  prepared = ap (λ (m : Made). m.conf) c.in_ok-prepared.ensures ∙ c.conf.ensures;
  directory = c.requires.loaded;
  index = c.in_ok-file.ensures.read;
})

pub returns-clause-can_report : goal.returns-clause-can_report
returns-clause-can_report g c = c.search_by-ended.ensures.can_report

pub returns-in_err-prepared-clause-ends : goal.returns-in_err-prepared-clause-ends
returns-in_err-prepared-clause-ends g c =
    let p = err_from_is_err_and c.from_residual.result c.from_residual.ensures.1 in
    rw (p.1, p.2) (λ w. stopped_at_once c.args.asked.now (record w { files = g.F.Folder.files c.args.folder.now; output = g.O.Sink.written c.args.out.now; messages = g.E.Sink.written c.args.err.now }) _ tt tt)

pub returns-in_err-prepared-clause-can_report : goal.returns-in_err-prepared-clause-can_report
returns-in_err-prepared-clause-can_report g c = each_reports _ _ c.requires.err

pub returns-in_err-file-clause-ends : goal.returns-in_err-file-clause-ends
returns-in_err-file-clause-ends g c =
    let p = err_from_is_err_and c.from_residual-in_err-file.result c.from_residual-in_err-file.ensures.1 in
    rw (p.1, p.2) (λ w. stopped_at_once c.args.asked.now (record w { files = g.F.Folder.files c.args.folder.now; output = g.O.Sink.written c.args.out.now; messages = g.E.Sink.written c.args.err.now }) _
    (index_stops (search_wanted c.args.asked.now) (g.F.Folder.files c.args.folder.now) (view c.args.filter.now) c.requires.filter c.args.database.now.conf c.args.database.now.entries refl c.requires.loaded _ c.in_err-file.ensures.err)
    (unread_first (index_name c.args.asked.now.db.now) _ c.in_err-file.ensures.err))

pub returns-in_err-file-clause-can_report : goal.returns-in_err-file-clause-can_report
returns-in_err-file-clause-can_report g c = each_reports _ _ c.requires.err
