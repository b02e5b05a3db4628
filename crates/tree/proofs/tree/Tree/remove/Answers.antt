use Rattle.std.specs.FinMap as finite
use Rattle.tree.proofs.Carried.{IsCarried, cell_there, take_done}
use Rattle.tree.proofs.tree.Tree.remove.Goals as goal

pub remove-requires-2 : goal.remove-requires-2
remove-requires-2 c = cell_there c.self.inside.made.value c.self.inside.cells.cells c.self.inside.cells.next c.self.inside.numbers.entries c.self.invariant c.args.self.now c.self.view_is c.args.path.now c.args.number c.requires.there

carried : (c : goal.After-drop) → IsCarried c.self.inside.made.value c.remove-2.new.self.cells c.remove.new.self.entries (finite.remove c.args.self.now.entries c.args.path.now) (finite.remove c.args.self.now.numbers c.args.path.now)
carried c =
    take_done c.self.inside.made.value c.self.inside.cells.cells c.self.inside.cells.next c.self.inside.numbers.entries c.self.invariant c.remove-2.new.self.cells c.args.path.now c.args.number c.remove-2.ensures.set c.remove-2.ensures.taken _ c.remove.ensures.entries
    c.args.self.now c.self.view_is c.requires.there c.requires.directory

pub invariant_of-self : goal.invariant_of-self
invariant_of-self c = (carried c).kept

pub returns-clause-entries : goal.returns-clause-entries
returns-clause-entries c = (carried c).entries

pub returns-clause-numbers : goal.returns-clause-numbers
returns-clause-numbers c = (carried c).numbers

pub returns-clause-freed : goal.returns-clause-freed
returns-clause-freed c = c.remove-2.ensures.next
