use Rattle.std.proofs.Common.{length, ◌++◌, sym, ap, subst, ◌∙◌, length-append, arith}
use Rattle.base.specs.Ends.{is_space, without_front}
use Rattle.filter_text.specs.Runs.{Stops}
use Rattle.filter_text.proofs.Runs.{front_run, front_stops}
use Rattle.filter_text.proofs.cursor.after_spaces.Goals as goal

pub returns-clause-run : goal.returns-clause-run
returns-clause-run c =
    let run = front_run c.args.bytes.now in
    (run.0, run.1, run.2 ∙ ap (λ xs. run.0 ++ xs) (sym c.without_front.ensures))

pub returns-clause-stops : goal.returns-clause-stops
returns-clause-stops c = subst (Stops is_space) (sym c.without_front.ensures) (front_stops c.args.bytes.now)

pub returns-clause-no_longer : goal.returns-clause-no_longer
returns-clause-no_longer c =
    let run = front_run c.args.bytes.now in
    let all = ap (λ xs. length xs) run.2 ∙ length-append run.0 (without_front c.args.bytes.now) in
    let same = ap (λ xs. length xs) c.without_front.ensures in
    omega (arith, all, same)
