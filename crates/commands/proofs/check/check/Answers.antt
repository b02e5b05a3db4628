use Rattle.std.proofs.Common.{List, ℕ, sym, subst}
use Rattle.commands.specs.Checks.{Checks, WarnsOf}
use Rattle.commands.specs.Worlds.{World, piped_world, source_world}
use Rattle.commands.proofs.Checked.{printed_so, unchecked_so}
use Rattle.commands.proofs.check.check.Goals as goal

pub returns-in-Ok : goal.returns-in-Ok
returns-in-Ok g c = λ w.
    let asked = c.args.asked.now in
    let start : World = piped_world w g.F.Folder.files g.S.Source.seen g.O.Sink.written c.args.folder.now c.args.input.now c.args.out.now in
    let mid : World = source_world start g.F.Folder.files g.S.Source.seen c.args.folder.now c.check_folder.new.input in
    printed_so asked start mid (g.O.Sink.written c.print_reports.new.out) c.as_slice.result.now c.as_slice-in-Ok.result.now c.print_reports.result
    (subst (λ (text : List ℕ). Checks asked text start mid) (sym c.as_slice.ensures.value) (c.in-Ok.ensures.checks start))
    (subst (λ (text : List ℕ). WarnsOf start.files asked.db.now text) (sym c.as_slice-in-Ok.ensures.value) c.in-Ok.ensures.warns)
    c.print_reports.ensures.status c.print_reports.ensures.printed c.print_reports.ensures.broke

pub returns-in-Err : goal.returns-in-Err
returns-in-Err g c = λ w.
    let start : World = piped_world w g.F.Folder.files g.S.Source.seen g.O.Sink.written c.args.folder.now c.args.input.now c.args.out.now in
    unchecked_so c.args.asked.now start (source_world start g.F.Folder.files g.S.Source.seen c.args.folder.now c.check_folder.new.input) _ (c.in-Err.ensures.stops start)
