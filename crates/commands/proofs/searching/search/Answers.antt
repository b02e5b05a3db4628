use Rattle.std.specs.Option.{option_copied}
use Rattle.std.proofs.lemmas.Result.{err_from_is_err_and}
use Rattle.filter_text.specs.Spells.{view}
use Rattle.commands.specs.Prints.{search_wanted}
use Rattle.commands.proofs.Searched.{stopped_at_once}
use Rattle.commands.proofs.Stopping.{filter_stops, filter_first, load_stops, load_first, each_reports}
use Rattle.commands.proofs.searching.search.Goals as goal

pub returns-clause-ends : goal.returns-clause-ends
returns-clause-ends g c = c.search_directory-ended.ensures.ends

pub returns-clause-can_report : goal.returns-clause-can_report
returns-clause-can_report g c = c.search_directory-ended.ensures.can_report

pub returns-in_err-filter-clause-ends : goal.returns-in_err-filter-clause-ends
returns-in_err-filter-clause-ends g c =
    let p = err_from_is_err_and c.from_residual.result c.from_residual.ensures.1 in
    rw (p.1, p.2) (λ w. stopped_at_once c.args.asked.now (record w { files = g.F.Folder.files c.args.folder.now; output = g.O.Sink.written c.args.out.now; messages = g.E.Sink.written c.args.err.now }) _
    (filter_stops (search_wanted c.args.asked.now) (g.F.Folder.files c.args.folder.now) _ c.in_err-filter.ensures.fault)
    (filter_first (option_copied c.args.asked.now.filter) _ c.in_err-filter.ensures.fault))

pub returns-in_err-filter-clause-can_report : goal.returns-in_err-filter-clause-can_report
returns-in_err-filter-clause-can_report g c = each_reports _ _ c.requires.err

pub returns-in_err-database-clause-ends : goal.returns-in_err-database-clause-ends
returns-in_err-database-clause-ends g c =
    let p = err_from_is_err_and c.from_residual-in_err-database.result c.from_residual-in_err-database.ensures.1 in
    rw (p.1, p.2) (λ w. stopped_at_once c.args.asked.now (record w { files = g.F.Folder.files c.args.folder.now; output = g.O.Sink.written c.args.out.now; messages = g.E.Sink.written c.args.err.now }) _
    (load_stops (search_wanted c.args.asked.now) (g.F.Folder.files c.args.folder.now) (view c.in_ok-filter.filter) c.in_ok-filter.ensures.found _ c.in_err-database.ensures.err)
    (load_first (g.F.Folder.files c.args.folder.now) c.args.asked.now.db.now _ c.in_err-database.ensures.err))

pub returns-in_err-database-clause-can_report : goal.returns-in_err-database-clause-can_report
returns-in_err-database-clause-can_report g c = each_reports _ _ c.requires.err
