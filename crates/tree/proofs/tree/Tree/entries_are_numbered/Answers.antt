use Rattle.std.proofs.Common.{subst}
use Rattle.tree.specs.Trees.{Tree, IsNumbered}
use Rattle.tree.specs.inner.Trees.{numbers_of}
use Rattle.tree.proofs.TreeLemmas.{is_numbered}
use Rattle.tree.proofs.tree.Tree.entries_are_numbered.Goals as goal

pub returns : goal.returns
returns c = subst (λ (d : Tree). IsNumbered d.entries d.numbers) c.self.view_is (is_numbered c.self.inside.made.value c.self.inside.cells.cells (numbers_of c.self.inside.numbers.entries) c.self.invariant.numbered)
