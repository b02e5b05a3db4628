use Rattle.std.proofs.Common.{refl, inl}
use Rattle.std.proofs.lemmas.Result.{err_from_is_err_and}
use Rattle.commands.specs.Worlds.{source_world}
use Rattle.commands.proofs.Checked.{fails_so, faults_told, lacks_so}
use Rattle.commands.proofs.check.check_conf.Goals as goal

pub returns-in-Err-Line-clause-checks : goal.returns-in-Err-Line-clause-checks
returns-in-Err-Line-clause-checks g c = λ w.
    let text = c.args.conf_text.now in
    let fault = c.in-Err-Line in
    inl (faults_told c.args.asked.now (source_world w g.F.Folder.files g.S.Source.seen c.args.folder.now c.args.input.now) text fault.field-0-0 fault.field-0-1 _ c.requires.there
    (fails_so text text refl _ fault.field-0-0 fault.field-0-1 fault.field-0-is fault.ensures) c.in_ok-fault_reports-in-Err-Line.ensures)

pub returns-in_err-types-in-Ok-clause-stops : goal.returns-in_err-types-in-Ok-clause-stops
returns-in_err-types-in-Ok-clause-stops g c =
    let p = err_from_is_err_and c.from_residual.result c.from_residual.ensures.1 in
    rw (p.1, p.2) (λ w. lacks_so c.args.asked.now (source_world w g.F.Folder.files g.S.Source.seen c.args.folder.now c.args.input.now) c.args.conf_text.now c.in-Ok.conf _
    c.requires.there c.in-Ok.ensures c.in_err-types-in-Ok.ensures.lacks)
