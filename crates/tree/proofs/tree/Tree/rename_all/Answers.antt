use Rattle.std.proofs.Common.{◌≡◌, ◌∙◌, ℕ, Some, sym, ap, false}
use Rattle.std.proofs.lemmas.Result.{IfOk-from_err}
use Rattle.std.specs.FinMap as finite
use Rattle.paths.specs.Paths.{Path, begins}
use Rattle.entries.specs.StoredEntries.{content_of}
use Rattle.tree.specs.Changes.{moved}
use Rattle.tree.specs.Trees.{Tree}
use Rattle.tree.proofs.Carried.{IsCarried, cell_there}
use Rattle.tree.proofs.Moved.{spare_of, of_numbers}
use Rattle.tree.proofs.Rekeyed.{exchange_done}
use Rattle.tree.proofs.tree.Tree.rename_all.Goals as goal
use Rattle.tree.proofs.tree.Tree.rename_all.Goals.{After-entries_are_numbered}

-- nothing stands where the entry moves to, nor below
spare : (c : After-entries_are_numbered) → (q : Path) (n : ℕ) → finite.get c.args.self.now.numbers q ≡ Some n → begins c.args.to.now q ≡ false
spare c = of_numbers c.args.self.now.entries c.args.self.now.numbers c.entries_are_numbered.ensures (λ p. begins c.args.to.now p ≡ false) (spare_of c.args.self.now.conf c.args.self.now.entries c.entries_are_a_directory.ensures c.args.to.now c.requires.new)

pub move_numbers-requires-clause-sorted : goal.move_numbers-requires-clause-sorted
move_numbers-requires-clause-sorted c = c.self.invariant.sorted

pub move_numbers-requires-clause-spare : goal.move_numbers-requires-clause-spare
move_numbers-requires-clause-spare c = λ q n at. spare (goal.at.move_numbers-requires-clause-spare c).After-entries_are_numbered q n (sym (ap (λ (d : Tree). finite.get d.numbers q) c.self.view_is) ∙ at)

pub replace-requires : goal.replace-requires
replace-requires c = cell_there c.self.inside.made.value c.self.inside.cells.cells c.self.inside.cells.next c.self.inside.numbers.entries c.self.invariant c.args.self.now c.self.view_is c.args.from.now c.args.number c.requires.there

carried : (c : goal.After-drop) → IsCarried c.self.inside.made.value c.replace.new.self.cells c.move_numbers.new.numbers.entries (finite.insert (moved c.args.from.now c.args.to.now c.args.self.now.entries) c.args.to.now (content_of c.args.entry)) (finite.insert (moved c.args.from.now c.args.to.now c.args.self.now.numbers) c.args.to.now c.args.number)
carried c =
    exchange_done c.self.inside.made.value c.self.inside.cells.cells c.self.inside.cells.next c.self.inside.numbers.entries c.self.invariant c.replace.new.self.cells c.args.from.now c.args.to.now c.args.number c.args.entry
    c.replace.ensures.set c.replace.ensures.taken c.move_numbers.new.numbers.entries c.move_numbers.ensures.sorted c.in_ok-move_numbers.ensures.moved
    c.args.self.now c.self.view_is c.requires.there
    (of_numbers c.args.self.now.entries c.args.self.now.numbers c.entries_are_numbered.ensures (λ p. begins c.args.to.now p ≡ false) (spare_of c.args.self.now.conf c.args.self.now.entries c.entries_are_a_directory.ensures c.args.to.now c.requires.new))
    c.requires.made c.requires.directory

pub invariant_of-self-2 : goal.invariant_of-self-2
invariant_of-self-2 c = (carried c).kept

pub returns-clause-entries : goal.returns-clause-entries
returns-clause-entries c = (carried c).entries

pub returns-clause-numbers : goal.returns-clause-numbers
returns-clause-numbers c = (carried c).numbers

pub returns-in_err-move_numbers-clause-entries : goal.returns-in_err-move_numbers-clause-entries
returns-in_err-move_numbers-clause-entries c = IfOk-from_err _ _ c.from_residual.ensures.0

pub returns-in_err-move_numbers-clause-numbers : goal.returns-in_err-move_numbers-clause-numbers
returns-in_err-move_numbers-clause-numbers c = IfOk-from_err _ _ c.from_residual.ensures.0

pub returns-in_err-move_numbers-clause-same_conf : goal.returns-in_err-move_numbers-clause-same_conf
returns-in_err-move_numbers-clause-same_conf c = ap (λ (d : Tree). d.conf) c.self.view_is
