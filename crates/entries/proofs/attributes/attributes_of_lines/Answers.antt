use Rattle.std.proofs.Common.{sym, ap, subst, ◌∙◌}
use Rattle.std.proofs.lemmas.Result.{err_from_is_err_and, IfOk-from_err}
use Rattle.base.specs.Answers.{Fails}
use Rattle.ldif.specs.Attrs.{Attr}
use Rattle.entries.specs.Gives.{fault_of}
use Rattle.entries.specs.StoredEntries.{attributes_of}
use Rattle.entries.specs.Entries.{add_line}
use Rattle.entries.proofs.LoopSteps.{line_added, line_refused, lines_added}
use Rattle.entries.proofs.attributes.attributes_of_lines.Goals as goal

pub loop-line-preserved : goal.loop-line-preserved
loop-line-preserved c = record {
  made = c.in_ok-add_line.ensures.made;
  norms = c.in_ok-add_line.ensures.norms;
  rest = line_added c.args.mode c.args.conf.now.types c.args.lines.now c.loop-line.line-index c.line-item.result (attributes_of c.loop-line.attrs.entries) _ c.loop-line-test.true c.loop-line.invariant.rest _ (ap (add_line c.args.mode c.args.conf.now.types (attributes_of c.loop-line.attrs.entries)) (sym c.line-item.is) ∙ c.in_ok-add_line.ensures.gives);
}

pub returns-clause-gives : goal.returns-clause-gives
returns-clause-gives c = lines_added c.args.mode c.args.conf.now.types c.args.lines.now c.loop-line.line-index (attributes_of c.loop-line.attrs.entries) _ c.loop-line-test.false c.loop-line.invariant.rest

pub returns-in_err-add_line-clause-gives : goal.returns-in_err-add_line-clause-gives
returns-in_err-add_line-clause-gives c =
    let mode = c.args.mode in
    let types = c.args.conf.now.types in
    let attrs = attributes_of c.loop-line.attrs.entries in
    let fault = fault_of c.in_err-add_line.field-0.0 in
    let p = err_from_is_err_and c.from_residual-in_err-add_line.result c.from_residual-in_err-add_line.ensures.1 in
    rw (p.1, p.2) (line_refused mode types c.args.lines.now c.loop-line.line-index c.line-item.result attrs _ c.loop-line-test.true c.loop-line.invariant.rest fault (subst (λ (l : Attr). Fails fault (add_line mode types attrs l)) c.line-item.is c.in_err-add_line.ensures.gives))

pub returns-in_err-add_line-clause-made : goal.returns-in_err-add_line-clause-made
returns-in_err-add_line-clause-made c = IfOk-from_err _ _ c.from_residual-in_err-add_line.ensures.0

pub returns-in_err-attrs-clause-made : goal.returns-in_err-attrs-clause-made
returns-in_err-attrs-clause-made c = IfOk-from_err _ _ c.from_residual.ensures.0

pub returns-in_err-attrs-clause-gives : goal.returns-in_err-attrs-clause-gives
returns-in_err-attrs-clause-gives c = let p = err_from_is_err_and c.from_residual.result c.from_residual.ensures.1 in rw (p.1, p.2) tt
