use Rattle.std.proofs.lemmas.Result.{err_from_is_err_and}
use Rattle.commands.proofs.ListEnds.{list_unloaded}
use Rattle.commands.proofs.Stopping.{each_reports}
use Rattle.commands.proofs.listing.search_list.Goals as goal

pub returns-clause-ends : goal.returns-clause-ends
returns-clause-ends g c = c.search_loaded-ended.ensures.ends

pub returns-clause-can_report : goal.returns-clause-can_report
returns-clause-can_report g c = c.search_loaded-ended.ensures.can_report

pub returns-in_err-database-clause-ends : goal.returns-in_err-database-clause-ends
returns-in_err-database-clause-ends g c =
    let p = err_from_is_err_and c.from_residual.result c.from_residual.ensures.1 in
    rw (p.1, p.2) (λ w. list_unloaded c.args.name.now c.args.asked.now
    (record w { files = g.F.Folder.files c.args.folder.now; input = g.S.Source.seen c.args.input.now; output = g.O.Sink.written c.args.out.now; messages = g.E.Sink.written c.args.err.now }) _ c.in_err-database.ensures.err)

pub returns-in_err-database-clause-can_report : goal.returns-in_err-database-clause-can_report
returns-in_err-database-clause-can_report g c = each_reports _ _ c.requires.err
