use Rattle.std.proofs.Common.{ℕ, List, subst, ap, ◌∙◌}
use Rattle.commands.specs.Worlds.{World}
use Rattle.commands.specs.Changes.{written_by, ChangeGoesThrough, ChangeStops}
use Rattle.commands.specs.Commands.{HelpGoesThrough, HelpStops}
use Rattle.commands.specs.Prints.{CatGoesThrough, CatStops}
use Rattle.commands.specs.inner.Stopped.{HasEnded, HasEndedUnder}
use Rattle.commands.specs.declared.changes.Task.{Task}
use Rattle.std.specs.Prelude.{Result, Ok}
use Rattle.command_line.specs.declared.request.UsageFault.{UsageFault}
use Rattle.command_line.specs.declared.request.Request.{Request}
use Rattle.commands.proofs.Locked.{so_locked, asked_so}
use Rattle.commands.proofs.Stopping.{each_reports}
use Rattle.commands.proofs.dispatch.carry_out.Goals as goal

abbrev request : Request → Result Request UsageFault
request asked = Ok asked

pub returns-in-Ok-Help-clause-ends : goal.returns-in-Ok-Help-clause-ends
returns-in-Ok-Help-clause-ends g c =
    let w : World = record { files = g.F.Folder.files c.args.folder.now; lock = g.F.Folder.locking c.args.folder.now; input = g.S.Source.seen c.args.input.now; output = g.O.Sink.written c.args.out.now; messages = g.E.Sink.written c.args.err.now } in
    let w' : World = record w { output = g.O.Sink.written c.print_help.new.out } in
    asked_so _ _ _ _ c.print_help.result (c.in-Ok-Help.is ∙ ap request c.in-Ok-Help.field-0-is) (subst (λ (text : List ℕ). HasEnded (HelpGoesThrough text) (HelpStops text) w w' c.print_help.result) c.as_str.ensures.value (c.print_help.ensures w))

pub returns-in-Ok-Add-clause-ends : goal.returns-in-Ok-Add-clause-ends
returns-in-Ok-Add-clause-ends g c =
    let w : World = record { files = g.F.Folder.files c.args.folder.now; lock = g.F.Folder.locking c.args.folder.now; input = g.S.Source.seen c.args.input.now; output = g.O.Sink.written c.args.out.now; messages = g.E.Sink.written c.args.err.now } in
    let w' : World = record w { files = g.F.Folder.files c.change.new.folder; lock = g.F.Folder.locking c.change.new.folder; input = g.S.Source.seen c.change.new.input; messages = g.E.Sink.written c.change.new.err } in
    asked_so _ _ _ _ c.change.result (c.in-Ok-Add.is ∙ ap request c.in-Ok-Add.field-0-is) (subst (λ (t : Task). HasEndedUnder (written_by t) (ChangeGoesThrough t) (ChangeStops t) w w' c.change.result) c.from.ensures (c.change.ensures.ends w))

pub returns-in-Ok-Modify-clause-ends : goal.returns-in-Ok-Modify-clause-ends
returns-in-Ok-Modify-clause-ends g c =
    let w : World = record { files = g.F.Folder.files c.args.folder.now; lock = g.F.Folder.locking c.args.folder.now; input = g.S.Source.seen c.args.input.now; output = g.O.Sink.written c.args.out.now; messages = g.E.Sink.written c.args.err.now } in
    let w' : World = record w { files = g.F.Folder.files c.change-in-Ok-Modify.new.folder; lock = g.F.Folder.locking c.change-in-Ok-Modify.new.folder; input = g.S.Source.seen c.change-in-Ok-Modify.new.input; messages = g.E.Sink.written c.change-in-Ok-Modify.new.err } in
    asked_so _ _ _ _ c.change-in-Ok-Modify.result (c.in-Ok-Modify.is ∙ ap request c.in-Ok-Modify.field-0-is) (subst (λ (t : Task). HasEndedUnder (written_by t) (ChangeGoesThrough t) (ChangeStops t) w w' c.change-in-Ok-Modify.result) c.from-in-Ok-Modify.ensures (c.change-in-Ok-Modify.ensures.ends w))

pub returns-in-Ok-Index-clause-ends : goal.returns-in-Ok-Index-clause-ends
returns-in-Ok-Index-clause-ends g c =
    let w : World = record { files = g.F.Folder.files c.args.folder.now; lock = g.F.Folder.locking c.args.folder.now; input = g.S.Source.seen c.args.input.now; output = g.O.Sink.written c.args.out.now; messages = g.E.Sink.written c.args.err.now } in
    asked_so _ _ _ _ c.slapindex.result (c.in-Ok-Index.is ∙ ap request c.in-Ok-Index.field-0-is) (c.slapindex.ensures w)

pub returns-in-Ok-Search-clause-ends : goal.returns-in-Ok-Search-clause-ends
returns-in-Ok-Search-clause-ends g c =
    let w : World = record { files = g.F.Folder.files c.args.folder.now; lock = g.F.Folder.locking c.args.folder.now; input = g.S.Source.seen c.args.input.now; output = g.O.Sink.written c.args.out.now; messages = g.E.Sink.written c.args.err.now } in
    asked_so _ _ _ _ c.search_any.result (c.in-Ok-Search.is ∙ ap request c.in-Ok-Search.field-0-is) (c.search_any.ensures.ends w)

pub returns-in-Ok-Cat-clause-ends : goal.returns-in-Ok-Cat-clause-ends
returns-in-Ok-Cat-clause-ends g c =
    let w : World = record { files = g.F.Folder.files c.args.folder.now; lock = g.F.Folder.locking c.args.folder.now; input = g.S.Source.seen c.args.input.now; output = g.O.Sink.written c.args.out.now; messages = g.E.Sink.written c.args.err.now } in
    let w' : World = record w { files = g.F.Folder.files c.slapcat.new.folder; output = g.O.Sink.written c.slapcat.new.out } in
    asked_so _ _ _ _ c.slapcat.result (c.in-Ok-Cat.is ∙ ap request c.in-Ok-Cat.field-0-is) (so_locked (CatGoesThrough c.in-Ok-Cat.asked) (CatStops c.in-Ok-Cat.asked) w w' _ _ c.slapcat.ensures.locking (c.slapcat.ensures.ends w))

pub returns-in-Ok-Diff-clause-ends : goal.returns-in-Ok-Diff-clause-ends
returns-in-Ok-Diff-clause-ends g c =
    let w : World = record { files = g.F.Folder.files c.args.folder.now; lock = g.F.Folder.locking c.args.folder.now; input = g.S.Source.seen c.args.input.now; output = g.O.Sink.written c.args.out.now; messages = g.E.Sink.written c.args.err.now } in
    asked_so _ _ _ _ c.ldifdiff.result (c.in-Ok-Diff.is ∙ ap request c.in-Ok-Diff.field-0-is) (c.ldifdiff.ensures.ends w)

pub returns-in-Ok-Check-clause-ends : goal.returns-in-Ok-Check-clause-ends
returns-in-Ok-Check-clause-ends g c =
    let w : World = record { files = g.F.Folder.files c.args.folder.now; lock = g.F.Folder.locking c.args.folder.now; input = g.S.Source.seen c.args.input.now; output = g.O.Sink.written c.args.out.now; messages = g.E.Sink.written c.args.err.now } in
    asked_so _ _ _ _ c.check.result (c.in-Ok-Check.is ∙ ap request c.in-Ok-Check.field-0-is) (c.check.ensures w)

pub returns-in-Ok-Sort-clause-ends : goal.returns-in-Ok-Sort-clause-ends
returns-in-Ok-Sort-clause-ends g c =
    let w : World = record { files = g.F.Folder.files c.args.folder.now; lock = g.F.Folder.locking c.args.folder.now; input = g.S.Source.seen c.args.input.now; output = g.O.Sink.written c.args.out.now; messages = g.E.Sink.written c.args.err.now } in
    asked_so _ _ _ _ c.sort.result (c.in-Ok-Sort.is ∙ ap request c.in-Ok-Sort.field-0-is) (c.sort.ensures w)

pub returns-in-Ok-Help-clause-can_report : goal.returns-in-Ok-Help-clause-can_report
returns-in-Ok-Help-clause-can_report g c = each_reports c.print_help.result _ c.requires.err

pub returns-in-Ok-Add-clause-can_report : goal.returns-in-Ok-Add-clause-can_report
returns-in-Ok-Add-clause-can_report g c = c.change.ensures.can_report

pub returns-in-Ok-Modify-clause-can_report : goal.returns-in-Ok-Modify-clause-can_report
returns-in-Ok-Modify-clause-can_report g c = c.change-in-Ok-Modify.ensures.can_report

pub returns-in-Ok-Index-clause-can_report : goal.returns-in-Ok-Index-clause-can_report
returns-in-Ok-Index-clause-can_report g c = each_reports c.slapindex.result _ c.requires.err

pub returns-in-Ok-Search-clause-can_report : goal.returns-in-Ok-Search-clause-can_report
returns-in-Ok-Search-clause-can_report g c = c.search_any.ensures.can_report

pub returns-in-Ok-Cat-clause-can_report : goal.returns-in-Ok-Cat-clause-can_report
returns-in-Ok-Cat-clause-can_report g c = each_reports c.slapcat.result _ c.requires.err

pub returns-in-Ok-Diff-clause-can_report : goal.returns-in-Ok-Diff-clause-can_report
returns-in-Ok-Diff-clause-can_report g c = c.ldifdiff.ensures.can_report

pub returns-in-Ok-Check-clause-can_report : goal.returns-in-Ok-Check-clause-can_report
returns-in-Ok-Check-clause-can_report g c = each_reports c.check.result _ c.requires.err

pub returns-in-Ok-Sort-clause-can_report : goal.returns-in-Ok-Sort-clause-can_report
returns-in-Ok-Sort-clause-can_report g c = each_reports c.sort.result _ c.requires.err

pub returns-in-Ok-Schema-clause-ends : goal.returns-in-Ok-Schema-clause-ends
returns-in-Ok-Schema-clause-ends g c =
    let w : World = record { files = g.F.Folder.files c.args.folder.now; lock = g.F.Folder.locking c.args.folder.now; input = g.S.Source.seen c.args.input.now; output = g.O.Sink.written c.args.out.now; messages = g.E.Sink.written c.args.err.now } in
    asked_so _ _ _ _ c.schema.result (c.in-Ok-Schema.is ∙ ap request c.in-Ok-Schema.field-0-is) (c.schema.ensures w)

pub returns-in-Ok-Schema-clause-can_report : goal.returns-in-Ok-Schema-clause-can_report
returns-in-Ok-Schema-clause-can_report g c = each_reports c.schema.result _ c.requires.err
