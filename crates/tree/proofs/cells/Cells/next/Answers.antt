use Rattle.tree.proofs.Chains.{next_is_free}
use Rattle.tree.proofs.cells.Cells.next.Goals as goal

pub returns-clause-free : goal.returns-clause-free
returns-clause-free g c = rw (← c.self.view_is) (next_is_free _ _ _ c.self.invariant)
