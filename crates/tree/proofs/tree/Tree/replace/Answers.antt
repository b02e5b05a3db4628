use Rattle.std.proofs.Common.{◌≡◌, Some, ap}
use Rattle.std.specs.FinMap as finite
use Rattle.paths.specs.Paths.{Path}
use Rattle.entries.specs.StoredEntries.{content_of}
use Rattle.tree.specs.Trees.{Tree}
use Rattle.tree.proofs.Carried.{IsCarried, cell_there, over_done}
use Rattle.tree.proofs.tree.Tree.replace.Goals as goal

pub replace-requires : goal.replace-requires
replace-requires c = cell_there c.self.inside.made.value c.self.inside.cells.cells c.self.inside.cells.next c.self.inside.numbers.entries c.self.invariant c.args.self.now c.self.view_is c.requires.there.0 c.args.number c.requires.there.1

carried : (c : goal.After-drop) → (p : Path) → finite.get c.args.self.now.numbers p ≡ Some c.args.number
    → IsCarried c.self.inside.made.value c.replace.new.self.cells c.self.inside.numbers.entries (finite.insert c.args.self.now.entries p (content_of c.args.entry)) (finite.insert c.args.self.now.numbers p c.args.number)
carried c p is =
    over_done c.self.inside.made.value c.self.inside.cells.cells c.self.inside.cells.next c.self.inside.numbers.entries c.self.invariant c.replace.new.self.cells p c.args.number c.args.entry
    c.replace.ensures.set c.replace.ensures.taken
    c.args.self.now c.self.view_is is c.requires.made (c.requires.directory p is)

pub invariant_of-self : goal.invariant_of-self
invariant_of-self c = (carried c c.requires.there.0 c.requires.there.1).kept

pub returns-clause-entries : goal.returns-clause-entries
returns-clause-entries c = λ p is. (carried c p is).entries

pub returns-clause-numbers : goal.returns-clause-numbers
returns-clause-numbers c = ap (λ (d : Tree). d.numbers) c.self.view_is
