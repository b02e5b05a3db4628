use Rattle.std.proofs.Common.{ap, subst, sym, ◌∙◌}
use Rattle.std.proofs.lemmas.Result.{err_from_is_err_and}
use Rattle.definitions.specs.declared.lines.Line.{Line}
use Rattle.dir_conf.specs.Configurations.{Defined, built_in, definition_line, defined_by}
use Rattle.base.specs.Answers.{Fails}
use Rattle.dir_conf.specs.Reads.{fault_at}
use Rattle.base.proofs.Through.{goes_on, ends, is_done}
use Rattle.dir_conf.specs.inner.Views.{defined_view}
use Rattle.dir_conf.proofs.defined.defined_by.Goals as goal

pub loop-line-init : goal.loop-line-init
loop-line-init c = ap (λ (s : Defined). defined_by s c.args.lines.now) c.in_ok-known.ensures

pub loop-line-preserved : goal.loop-line-preserved
loop-line-preserved c =
    goes_on definition_line c.args.lines.now c.loop-line.line-index c.line-item.result (defined_view c.loop-line.known)
    (defined_view c.in_ok-known-2.known) (defined_by built_in c.args.lines.now) c.loop-line-test.true
    (ap (λ (l : Line). definition_line (defined_view c.loop-line.known) l) (sym c.line-item.is) ∙ c.in_ok-known-2.ensures) c.loop-line.invariant

pub returns-in_err-known-2 : goal.returns-in_err-known-2
returns-in_err-known-2 c =
    let p = err_from_is_err_and c.from_residual-in_err-known-2.result c.from_residual-in_err-known-2.ensures.1 in
    rw (p.1, p.2)
    (ends definition_line c.args.lines.now c.loop-line.line-index c.line-item.result (defined_view c.loop-line.known) (fault_at c.in_err-known-2.field-0.0) (defined_by built_in c.args.lines.now) c.loop-line-test.true
    (subst (λ (l : Line). Fails (fault_at c.in_err-known-2.field-0.0) (definition_line (defined_view c.loop-line.known) l)) c.line-item.is c.in_err-known-2.ensures) c.loop-line.invariant)

pub returns : goal.returns
returns c =
    is_done definition_line c.args.lines.now c.loop-line.line-index (defined_view c.loop-line.known) (defined_by built_in c.args.lines.now) c.loop-line-test.false c.loop-line.invariant
