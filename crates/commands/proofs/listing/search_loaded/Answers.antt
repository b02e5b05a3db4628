use Rattle.std.specs.Prelude.{Err}
use Rattle.std.proofs.lemmas.Result.{err_from_is_err_and}
use Rattle.commands.specs.Lists.{list_source}
use Rattle.commands.specs.Worlds.{World}
use Rattle.commands.specs.declared.messages.CommandFault.TheVariants as faults
use Rattle.commands.specs.declared.messages.Stop.TheVariants as stops
use Rattle.commands.proofs.IndexTold.{kind_whole}
use Rattle.commands.proofs.SourcesRead.{nothing_read}
use Rattle.commands.proofs.ListEnds.{list_index_unread, list_unreported, list_unread, list_reported}
use Rattle.commands.proofs.Stopping.{each_reports}
use Rattle.commands.proofs.listing.search_loaded.Goals as goal

pub returns-in_err-file-clause-ends : goal.returns-in_err-file-clause-ends
returns-in_err-file-clause-ends g c =
    let d = c.args.database.now in
    let p = err_from_is_err_and c.from_residual.result c.from_residual.ensures.1 in
    rw (p.1, p.2) (λ w. list_index_unread c.args.name.now c.args.asked.now
    (record w { files = g.F.Folder.files c.args.folder.now; input = g.S.Source.seen c.args.input.now; output = g.O.Sink.written c.args.out.now; messages = g.E.Sink.written c.args.err.now })
    d.conf d.entries c.requires.loaded _ c.in_err-file.ensures.err)

pub returns-in_err-file-clause-can_report : goal.returns-in_err-file-clause-can_report
returns-in_err-file-clause-can_report g c = each_reports _ _ c.requires.err

pub returns-in_err-report_index-clause-ends : goal.returns-in_err-report_index-clause-ends
returns-in_err-report_index-clause-ends g c =
    let d = c.args.database.now in
    let read = c.in_ok-file.ensures.read in
    let p = err_from_is_err_and c.from_residual-in_err-report_index.result c.from_residual-in_err-report_index.ensures.1 in
    rw (p.1, p.2) (λ w. list_unreported c.args.name.now c.args.asked.now
    (record w { files = g.F.Folder.files c.args.folder.now; input = g.S.Source.seen c.args.input.now; output = g.O.Sink.written c.args.out.now; messages = g.E.Sink.written c.args.err.now })
    read.said _ _ (record { conf = d.conf; entries = d.entries; loaded = c.requires.loaded; says = read.in_file })
    (c.in_err-report_index.ensures.err read.said (kind_whole d c.in_ok-file.file read.said read.kept)))

pub returns-in_err-index-clause-ends : goal.returns-in_err-index-clause-ends
returns-in_err-index-clause-ends g c =
    let d = c.args.database.now in
    let read = c.in_ok-file.ensures.read in
    let p = err_from_is_err_and c.from_residual-in_err-index.result c.from_residual-in_err-index.ensures.1 in
    rw (p.1, p.2) (λ w.
    let start : World = record w { files = g.F.Folder.files c.args.folder.now; input = g.S.Source.seen c.args.input.now; output = g.O.Sink.written c.args.out.now; messages = g.E.Sink.written c.args.err.now } in
    let told : World = record start { messages = g.E.Sink.written c.report_index.new.err } in
    list_reported c.args.name.now c.args.asked.now start read.said (g.E.Sink.written c.report_index.new.err)
    (record { conf = d.conf; entries = d.entries; loaded = c.requires.loaded; says = read.in_file })
    (c.in_ok-report_index.ensures.reports read.said (kind_whole d c.in_ok-file.file read.said read.kept))
    told (Err (stops.Fault faults.OutOfMemory)) (list_unread c.args.name.now c.args.asked.now read.said told told faults.OutOfMemory (nothing_read (list_source c.args.name.now) told) tt))

pub returns-clause-ends : goal.returns-clause-ends
returns-clause-ends g c = λ w.
    let d = c.args.database.now in
    let read = c.in_ok-file.ensures.read in
    list_reported c.args.name.now c.args.asked.now
    (record w { files = g.F.Folder.files c.args.folder.now; input = g.S.Source.seen c.args.input.now; output = g.O.Sink.written c.args.out.now; messages = g.E.Sink.written c.args.err.now })
    read.said _ (record { conf = d.conf; entries = d.entries; loaded = c.requires.loaded; says = read.in_file })
    (c.in_ok-report_index.ensures.reports read.said (kind_whole d c.in_ok-file.file read.said read.kept))
    _ _ (c.search_by_index-ended.ensures.ends read.said (c.in_ok-index.ensures read.said read.kept) read.in_file w)

pub returns-clause-can_report : goal.returns-clause-can_report
returns-clause-can_report g c = c.search_by_index-ended.ensures.can_report
