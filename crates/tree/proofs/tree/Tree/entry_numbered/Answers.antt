use Rattle.std.proofs.Common.{sym, ◌∙◌, ap, subst}
use Rattle.std.specs.FinMap.{get}
use Rattle.entries.specs.StoredEntries.{IsMade}
use Rattle.tree.specs.Trees.{Tree}
use Rattle.tree.specs.inner.Trees.{numbers_of}
use Rattle.tree.proofs.TreeLemmas.{lent_at, no_cell}
use Rattle.tree.proofs.tree.Tree.entry_numbered.Goals as goal

pub unreachable-requires : goal.unreachable-requires
unreachable-requires c =
    no_cell c.self.inside.made.value c.self.inside.cells.cells (numbers_of c.self.inside.numbers.entries) c.self.invariant.numbered c.requires.0 c.args.number
    (ap (λ (d : Tree). get d.numbers c.requires.0) c.self.view_is ∙ c.requires.1) c.in-None.ensures

pub returns-clause-entry : goal.returns-clause-entry
returns-clause-entry c = λ p is.
    sym (ap (λ (d : Tree). get d.entries p) c.self.view_is)
    ∙ (lent_at c.self.inside.made.value c.self.inside.cells.cells (numbers_of c.self.inside.numbers.entries) c.self.invariant.numbered p c.args.number (ap (λ (d : Tree). get d.numbers p) c.self.view_is ∙ is) c.in-Some.entry.now c.in-Some.ensures).0

pub returns-clause-made : goal.returns-clause-made
returns-clause-made c =
    subst (λ (d : Tree). IsMade d.conf.types c.in-Some.entry.now.attrs) c.self.view_is
    (lent_at c.self.inside.made.value c.self.inside.cells.cells (numbers_of c.self.inside.numbers.entries) c.self.invariant.numbered c.requires.0 c.args.number (ap (λ (d : Tree). get d.numbers c.requires.0) c.self.view_is ∙ c.requires.1) c.in-Some.entry.now c.in-Some.ensures).1
