use Rattle.std.proofs.Common.{ℕ, List, subst}
use Rattle.std.proofs.lemmas.Result.{err_from_is_err_and}
use Rattle.commands.specs.Lists.{lines, RunsLines, StopsInLines}
use Rattle.commands.specs.Worlds.{World}
use Rattle.commands.specs.inner.Lists.{common_of}
use Rattle.commands.specs.inner.Stopped.{HasEnded}
use Rattle.commands.specs.declared.messages.CommandFault.TheVariants as faults
use Rattle.commands.specs.declared.messages.Status.TheVariants.{Done}
use Rattle.commands.proofs.ListEnds.{no_list_base, list_unread, list_ran}
use Rattle.commands.proofs.Stopping.{each_reports}
use Rattle.commands.proofs.listing.search_by_index.Goals as goal

pub returns-in_err-query-clause-ends : goal.returns-in_err-query-clause-ends
returns-in_err-query-clause-ends g c =
    let d = c.args.database.now in
    let p = err_from_is_err_and c.from_residual.result c.from_residual.ensures.1 in
    rw (p.1, p.2) (λ said serves says w. no_list_base c.args.name.now c.args.asked.now said
    (record w { files = g.F.Folder.files c.args.folder.now; input = g.S.Source.seen c.args.input.now; output = g.O.Sink.written c.args.out.now; messages = g.E.Sink.written c.args.err.now })
    d.conf d.entries c.requires.loaded _ c.in_err-query.ensures.fault)

pub returns-in_err-query-clause-can_report : goal.returns-in_err-query-clause-can_report
returns-in_err-query-clause-can_report g c = each_reports _ _ c.requires.err

pub returns-in_err-text-clause-ends : goal.returns-in_err-text-clause-ends
returns-in_err-text-clause-ends g c =
    let p = err_from_is_err_and c.from_residual-in_err-text.result c.from_residual-in_err-text.ensures.1 in
    rw (p.1, p.2) (λ said serves says w.
    let start : World = record w { files = g.F.Folder.files c.args.folder.now; input = g.S.Source.seen c.args.input.now; output = g.O.Sink.written c.args.out.now; messages = g.E.Sink.written c.args.err.now } in
    let read : World = record start { input = g.S.Source.seen c.read_list.new.input } in
    list_unread c.args.name.now c.args.asked.now said start read _ (c.in_err-text.ensures.stays start) c.in_err-text.ensures.fails)

pub returns-in_err-text-clause-can_report : goal.returns-in_err-text-clause-can_report
returns-in_err-text-clause-can_report g c = each_reports _ _ c.requires.err

pub returns-in_err-entries-clause-ends : goal.returns-in_err-entries-clause-ends
returns-in_err-entries-clause-ends g c =
    let p = err_from_is_err_and c.from_residual-in_err-entries.result c.from_residual-in_err-entries.ensures.1 in
    rw (p.1, p.2) (λ said serves says w.
    let start : World = record w { files = g.F.Folder.files c.args.folder.now; input = g.S.Source.seen c.args.input.now; output = g.O.Sink.written c.args.out.now; messages = g.E.Sink.written c.args.err.now } in
    let read : World = record start { input = g.S.Source.seen c.read_list.new.input } in
    list_unread c.args.name.now c.args.asked.now said start read faults.OutOfMemory (c.in_ok-text.ensures.stays start) tt)

pub returns-clause-ends : goal.returns-clause-ends
returns-clause-ends g c = λ said serves says w.
    let d = c.args.database.now in
    let asked = c.args.asked.now in
    let shared = common_of said d c.in_ok-query.query in
    let start : World = record w { files = g.F.Folder.files c.args.folder.now; input = g.S.Source.seen c.args.input.now; output = g.O.Sink.written c.args.out.now; messages = g.E.Sink.written c.args.err.now } in
    let mid : World = record start { input = g.S.Source.seen c.read_list.new.input } in
    let end : World = record mid { output = g.O.Sink.written c.search_lines.new.out; messages = g.E.Sink.written c.search_lines.new.err } in
    list_ran c.args.name.now asked said start d c.in_ok-query.query c.in_ok-query.ensures.found c.requires.loaded says
    c.in_ok-text.text.items mid (c.in_ok-text.ensures.reads start) end c.search_lines.result
    (subst (λ (text : List ℕ). HasEnded (RunsLines asked shared 1 Done (lines text)) (StopsInLines asked shared 1 (lines text)) mid end c.search_lines.result) c.deref.ensures.value (c.search_lines.ensures.ends said serves mid))

pub returns-clause-can_report : goal.returns-clause-can_report
returns-clause-can_report g c = c.search_lines.ensures.can_report
