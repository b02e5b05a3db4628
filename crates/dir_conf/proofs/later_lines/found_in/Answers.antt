use Rattle.std.proofs.Common.{ap, subst, sym, ◌∙◌}
use Rattle.std.proofs.lemmas.Result.{err_from_is_err_and}
use Rattle.definitions.specs.declared.lines.Line.{Line}
use Rattle.dir_conf.specs.Configurations.{none_found, found_in, later_line}
use Rattle.base.specs.Answers.{Fails}
use Rattle.dir_conf.specs.Reads.{fault_at}
use Rattle.base.proofs.Through.{goes_on, ends, is_done}
use Rattle.dir_conf.specs.inner.Views.{found_view}
use Rattle.dir_conf.proofs.later_lines.found_in.Goals as goal

pub loop-line-preserved : goal.loop-line-preserved
loop-line-preserved c =
    goes_on (later_line c.args.types.now) c.args.lines.now c.loop-line.line-index c.line-item.result (found_view c.loop-line.found) (found_view c.read_later_line.new.found) (found_in c.args.types.now none_found c.args.lines.now) c.loop-line-test.true
    (ap (λ (l : Line). later_line c.args.types.now (found_view c.loop-line.found) l) (sym c.line-item.is) ∙ c.in_ok-read_later_line.ensures) c.loop-line.invariant

pub returns : goal.returns
returns c = is_done (later_line c.args.types.now) c.args.lines.now c.loop-line.line-index (found_view c.loop-line.found) (found_in c.args.types.now none_found c.args.lines.now) c.loop-line-test.false c.loop-line.invariant

pub returns-in_err-read_later_line : goal.returns-in_err-read_later_line
returns-in_err-read_later_line c =
    let p = err_from_is_err_and c.from_residual.result c.from_residual.ensures.1 in
    rw (p.1, p.2)
    (ends (later_line c.args.types.now) c.args.lines.now c.loop-line.line-index c.line-item.result (found_view c.loop-line.found) (fault_at c.in_err-read_later_line.field-0.0) (found_in c.args.types.now none_found c.args.lines.now) c.loop-line-test.true
    (subst (λ (l : Line). Fails (fault_at c.in_err-read_later_line.field-0.0) (later_line c.args.types.now (found_view c.loop-line.found) l)) c.line-item.is c.in_err-read_later_line.ensures) c.loop-line.invariant)
