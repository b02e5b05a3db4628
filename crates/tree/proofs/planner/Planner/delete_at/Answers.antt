use Rattle.std.proofs.Common.{◌≡◌, sym, ap, ◌∙◌}
use Rattle.std.specs.Prelude.{is_some}
use Rattle.std.specs.FinMap as finite
use Rattle.tree.proofs.planner.Planner.delete_at.Goals as goal
use Rattle.tree.proofs.planner.Planner.delete_at.Goals.{After-number}

-- an entry stands where a number does
there : (c : After-number) → finite.contains_key c.args.self.now.tree.now.entries c.args.path ≡ is_some c.number.result
there c = sym (c.entries_are_numbered.ensures.there c.args.path) ∙ ap is_some (sym c.number.ensures)

pub returns-clause-change : goal.returns-clause-change
returns-clause-change c = record {
  fit = sym c.in-Some.ensures;
  directory = c.removing_keeps_a_directory.ensures c.args.self.now.tree.now.conf c.args.self.now.tree.now.entries c.args.path c.entries_are_a_directory.ensures (sym c.has_child.ensures ∙ c.if-has_child.false);
}
