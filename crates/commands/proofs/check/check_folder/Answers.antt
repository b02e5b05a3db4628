use Rattle.std.proofs.lemmas.Result.{err_from_is_err_and}
use Rattle.commands.specs.Worlds.{World, source_world}
use Rattle.commands.proofs.Checked.{want_behind_all}
use Rattle.commands.proofs.check.check_folder.Goals as goal

pub returns-in_err-warned-clause-stops : goal.returns-in_err-warned-clause-stops
returns-in_err-warned-clause-stops g c =
    let p = err_from_is_err_and c.from_residual-in_err-warned.result c.from_residual-in_err-warned.ensures.1 in
    rw (p.1, p.2) (λ w.
    let start : World = source_world w g.F.Folder.files g.S.Source.seen c.args.folder.now c.args.input.now in
    let end : World = source_world w g.F.Folder.files g.S.Source.seen c.args.folder.now c.check_conf.new.input in
    want_behind_all c.args.asked.now _ start end (c.in_ok-checked.ensures.checks w))
