use Rattle.std.proofs.Common.{ap}
use Rattle.std.proofs.lemmas.Result.{IfOk-from_err}
use Rattle.std.specs.FinMap as finite
use Rattle.entries.specs.StoredEntries.{content_of}
use Rattle.tree.specs.Trees.{Tree}
use Rattle.tree.proofs.Carried.{IsCarried, cell_there, move_done, no_number}
use Rattle.tree.proofs.tree.Tree.rename_alone.Goals as goal

pub replace-requires : goal.replace-requires
replace-requires c = cell_there c.self.inside.made.value c.self.inside.cells.cells c.self.inside.cells.next c.self.inside.numbers.entries c.self.invariant c.args.self.now c.self.view_is c.args.from.now c.args.number c.requires.there

carried : (c : goal.After-drop) → IsCarried c.self.inside.made.value c.replace.new.self.cells c.remove.new.self.entries (finite.insert (finite.remove c.args.self.now.entries c.args.from.now) c.args.to (content_of c.args.entry)) (finite.insert (finite.remove c.args.self.now.numbers c.args.from.now) c.args.to c.args.number)
carried c =
    move_done c.self.inside.made.value c.self.inside.cells.cells c.self.inside.cells.next c.self.inside.numbers.entries c.self.invariant c.replace.new.self.cells c.args.from.now c.args.to c.args.number c.args.entry
    c.replace.ensures.set c.replace.ensures.taken _ _ c.in_ok-insert.ensures.entries c.remove.ensures.entries
    c.args.self.now c.self.view_is c.requires.there (no_number c.args.self.now c.entries_are_numbered.ensures c.args.to c.requires.new) c.requires.made c.requires.directory

pub invariant_of-self-2 : goal.invariant_of-self-2
invariant_of-self-2 c = (carried c).kept

pub returns-clause-entries : goal.returns-clause-entries
returns-clause-entries c = (carried c).entries

pub returns-clause-numbers : goal.returns-clause-numbers
returns-clause-numbers c = (carried c).numbers

pub returns-in_err-insert-clause-entries : goal.returns-in_err-insert-clause-entries
returns-in_err-insert-clause-entries c = IfOk-from_err _ _ c.from_residual.ensures.0

pub returns-in_err-insert-clause-numbers : goal.returns-in_err-insert-clause-numbers
returns-in_err-insert-clause-numbers c = IfOk-from_err _ _ c.from_residual.ensures.0

pub returns-in_err-insert-clause-same_conf : goal.returns-in_err-insert-clause-same_conf
returns-in_err-insert-clause-same_conf c = ap (λ (d : Tree). d.conf) c.self.view_is
