use Rattle.std.proofs.Common.{sym, ap, subst, Some, ◌≢◌, ◌∙◌}
use Rattle.std.specs.Prelude.{IsSomeAnd}
use Rattle.std.specs.FinMap as finite
use Rattle.tree.specs.Cells.{cell}
use Rattle.paths.specs.Paths.{Path}
use Rattle.entries.specs.StoredEntries.{Entry, IsMade}
use Rattle.tree.specs.Trees.{Tree}
use Rattle.tree.proofs.tree.Tree.next_number.Goals as goal

pub returns-clause-free : goal.returns-clause-free
returns-clause-free c = subst (λ (d : Tree). (p : Path) → finite.get d.numbers p ≢ Some d.next_number) c.self.view_is
    (λ p is. let f = subst (λ o. IsSomeAnd o (λ (e : Entry). IsMade c.self.inside.made.value.types e.attrs)) (ap (cell c.self.inside.cells.cells) (sym c.next.ensures.number) ∙ c.next.ensures.free) (c.self.invariant.numbered.filled p c.self.inside.cells.next is) in f)
