use Rattle.std.proofs.Common.{◌≡◌, ◌∙◌, ◌+◌, ◌<◌, sym, ap, subst, Some}
use Rattle.std.proofs.lemmas.Result.{IfOk-from_err}
use Rattle.std.specs.FinMap as finite
use Rattle.entries.specs.StoredEntries.{Entry, content_of}
use Rattle.tree.specs.Cells as seen
use Rattle.tree.specs.Cells.{cell, taken, most, IsSet}
use Rattle.tree.specs.Trees.{Tree}
use Rattle.tree.specs.inner.Trees.{Cells}
use Rattle.tree.proofs.Carried.{IsCarried, cell_left, new_done, no_number, number_new}
use Rattle.tree.proofs.tree.Tree.add.Goals as goal

pub insert_reserved-requires-clause-few : goal.insert_reserved-requires-clause-few
insert_reserved-requires-clause-few c =
    subst (λ (s : seen.Cells Entry). taken s.cells < most) (sym c.reserve.ensures.kept)
    (cell_left c.self.inside.made.value c.self.inside.cells.cells c.self.inside.cells.next c.self.inside.numbers.entries c.self.invariant c.args.self.now c.self.view_is c.args.path (content_of c.args.entry) c.requires.new c.requires.directory)

carried : (c : goal.After-insert_reserved) → IsCarried c.self.inside.made.value c.insert_reserved.new.self.cells c.insert.new.self.entries (finite.insert c.args.self.now.entries c.args.path (content_of c.args.entry)) (finite.insert c.args.self.now.numbers c.args.path c.next_number-number.result)
carried c =
    let same : c.reserve.new.self.cells ≡ c.self.inside.cells.cells = ap (λ (s : seen.Cells Entry). s.cells) c.reserve.ensures.kept in
    let number : c.insert_reserved.result ≡ c.next_number-number.result = c.insert_reserved.ensures.number ∙ ap (λ (s : seen.Cells Entry). s.next) c.reserve.ensures.kept ∙ ap (λ (d : Tree). d.next_number) c.self.view_is ∙ sym c.next_number-number.ensures.number in
    new_done c.self.inside.made.value c.self.inside.cells.cells c.self.inside.cells.next c.self.inside.numbers.entries c.self.invariant c.insert_reserved.new.self.cells c.args.path c.next_number-number.result c.args.entry
    (ap (λ (s : Cells). cell s c.next_number-number.result) (sym same) ∙ ap (cell c.reserve.new.self.cells) (sym number) ∙ c.insert_reserved.ensures.was_free)
    (subst (λ (s : Cells). IsSet s c.insert_reserved.new.self.cells c.next_number-number.result (Some c.args.entry)) same (subst (λ n. IsSet c.reserve.new.self.cells c.insert_reserved.new.self.cells n (Some c.args.entry)) number c.insert_reserved.ensures.set))
    (c.insert_reserved.ensures.taken ∙ ap (λ (s : Cells). taken s + 1) same)
    _ c.in_ok-insert.ensures.entries
    c.args.self.now c.self.view_is (no_number c.args.self.now c.entries_are_numbered.ensures c.args.path c.requires.new) c.requires.made c.requires.directory

pub invariant_of-self-2 : goal.invariant_of-self-2
invariant_of-self-2 c = (carried c).kept

pub returns-clause-entries : goal.returns-clause-entries
returns-clause-entries c = (carried c).entries

pub returns-clause-numbers : goal.returns-clause-numbers
returns-clause-numbers c = (carried c).numbers ∙ ap (finite.insert c.args.self.now.numbers c.args.path) (c.next_number-number.ensures.number ∙ sym (number_new c.args.self.now c.entries_are_numbered.ensures c.args.path c.requires.new))

pub returns-in_err-insert-clause-entries : goal.returns-in_err-insert-clause-entries
returns-in_err-insert-clause-entries c = IfOk-from_err _ _ c.from_residual-in_err-insert.ensures.0

pub returns-in_err-insert-clause-numbers : goal.returns-in_err-insert-clause-numbers
returns-in_err-insert-clause-numbers c = IfOk-from_err _ _ c.from_residual-in_err-insert.ensures.0

pub returns-in_err-reserve-clause-entries : goal.returns-in_err-reserve-clause-entries
returns-in_err-reserve-clause-entries c = IfOk-from_err _ _ c.from_residual.ensures.0

pub returns-in_err-reserve-clause-numbers : goal.returns-in_err-reserve-clause-numbers
returns-in_err-reserve-clause-numbers c = IfOk-from_err _ _ c.from_residual.ensures.0

pub returns-in_err-insert-clause-same_conf : goal.returns-in_err-insert-clause-same_conf
returns-in_err-insert-clause-same_conf c = ap (λ (d : Tree). d.conf) c.self.view_is

pub returns-in_err-reserve-clause-same_conf : goal.returns-in_err-reserve-clause-same_conf
returns-in_err-reserve-clause-same_conf c = ap (λ (d : Tree). d.conf) c.self.view_is
