use Rattle.std.proofs.Common.{sym, subst}
use Rattle.tree.specs.Trees.{Tree}
use Rattle.tree.specs.inner.Plans.{IsPlan}
use Rattle.tree.proofs.PlanLemmas.{spare}
use Rattle.tree.proofs.plans.Plan.of.Goals as goal

pub invariant_of-result : goal.invariant_of-result
invariant_of-result c = subst (λ (d : Tree). IsPlan d c.args.change) (sym c.of.ensures) (record {
  change = c.requires;
  spare = spare c.args.tree.now c.args.change c.entries_are_a_directory.ensures c.entries_are_numbered.ensures c.requires.fit;
  numbered = c.entries_are_numbered.ensures;
  free = c.next_number.ensures.free;
})
