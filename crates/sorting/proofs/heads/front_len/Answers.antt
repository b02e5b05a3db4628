use Rattle.std.proofs.Common.{Bool, sym, subst, ◌∙◌}
use Rattle.sorting.specs.inner.Heads.{IsSoFar}
use Rattle.sorting.proofs.Cutting.{is_empty_so}
use Rattle.sorting.proofs.Fronts.{one_more, ends, all_front}
use Rattle.sorting.proofs.heads.front_len.Goals as goal

pub lines-preserved : goal.lines-preserved
lines-preserved c =
    subst (λ (first : Bool). IsSoFar c.args.text.now c.in-Some.next first c.split_line.result.1.now) (sym c.is_empty-first.ensures)
    (one_more c.args.text.now c.lines.stage c.lines.first c.lines.rest.now _ _ c.lines.invariant c.split_line.ensures.lines c.in-Some.next (sym c.behind.ensures ∙ c.in-Some.is) c.split_line.ensures.text)

pub returns-in-None-clause-front : goal.returns-in-None-clause-front
returns-in-None-clause-front c =
    ends c.args.text.now c.lines.stage c.lines.first c.lines.rest.now _ _ c.lines.invariant c.split_line.ensures.lines (sym c.behind.ensures ∙ c.in-None.is)

pub returns-clause-front : goal.returns-clause-front
returns-clause-front c =
    all_front c.args.text.now c.lines.stage c.lines.first c.lines.rest.now c.lines.invariant (is_empty_so c.lines.rest.now _ c.is_empty.ensures c.lines-test.false)
