use Rattle.std.proofs.Common.{arith, sym, ◌∙◌}
use Rattle.std.proofs.lemmas.Grind.{common_steps}
use Rattle.tree.proofs.TreeLemmas.{next_placed}
use Rattle.tree.proofs.range.NumberedEntriesIterator.next.Goals as goal

pub returns-in-Some-get-clause-steps : goal.returns-in-Some-get-clause-steps
returns-in-Some-get-clause-steps c =
    sym c.self.view_is
    ∙ next_placed c.self.inside.base.now c.self.inside.ended c.self.inside.cells.now.cells c.self.inside.rest c.next.new.self c.in-Some.path.now c.in-Some.number.now c.in-Some-get.entry.now
    c.if-self.false c.in-Some.ensures.steps c.in-Some-get.ensures (sym c.begins.ensures ∙ c.if-begins.true)

pub returns-in-Some-get-clause-goes : goal.returns-in-Some-get-clause-goes
returns-in-Some-get-clause-goes c = grind (arith, common_steps)
