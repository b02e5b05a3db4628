use Rattle.std.proofs.Common.{sym, subst, ◌∙◌}
use Rattle.sorting.specs.inner.Stanzas.{GoesOn}
use Rattle.sorting.specs.declared.stanzas.Begun.{Begun}
use Rattle.sorting.proofs.Cutting.{goes_on, ends_here, all_taken, is_empty_so}
use Rattle.sorting.proofs.stanzas.stanza_len.Goals as goal

pub lines-preserved : goal.lines-preserved
lines-preserved c =
    subst (λ (b : Begun). GoesOn c.args.text.now b c.split_line.result.1.now) (sym c.behind-begun.ensures)
    (goes_on c.args.text.now c.lines.begun c.lines.rest.now _ _ c.lines.invariant c.split_line.ensures.lines c.split_line.ensures.text c.split_line.ensures.shorter (sym c.ends_with.ensures ∙ c.if-ends_with.false))

pub returns-then-ends_with-clause-first : goal.returns-then-ends_with-clause-first
returns-then-ends_with-clause-first c = λ some.
    ends_here c.args.text.now c.lines.begun c.lines.rest.now _ _ c.lines.invariant c.split_line.ensures.lines c.split_line.ensures.text c.split_line.ensures.shorter (sym c.ends_with.ensures ∙ c.if-ends_with.true)

pub returns-clause-first : goal.returns-clause-first
returns-clause-first c = all_taken c.args.text.now c.lines.begun c.lines.rest.now c.lines.invariant (is_empty_so c.lines.rest.now _ c.is_empty.ensures c.lines-test.false)
