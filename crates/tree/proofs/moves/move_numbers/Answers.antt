use Rattle.std.proofs.Common.{◌≡◌, ◌∙◌, ℕ, List, sym, ap}
use Rattle.std.proofs.lemmas.Result.{IfOk-from_err}
use Rattle.std.specs.Prelude.{filter}
use Rattle.std.specs.FinMap as finite
use Rattle.paths.specs.Paths.{Path, path_cmp, begins}
use Rattle.tree.specs.Changes.{moved_entries}
use Rattle.tree.specs.Trees.{Numbers}
use Rattle.tree.specs.inner.Moves.{is_among, put_all, without_all}
use Rattle.tree.specs.inner.Trees.{numbers_of}
use Rattle.tree.proofs.Moving.{moves, undone, same_numbers}
use Rattle.tree.proofs.moves.move_numbers.Goals as goal
use Rattle.tree.proofs.moves.move_numbers.Goals.{In_ok-led}

-- those that go along, as the map has them
along_is : (c : In_ok-led) → c.in_ok-along.along.items ≡ filter (λ e. begins c.args.from.now e.0) (finite.entries (numbers_of c.args.numbers.now.entries))
along_is c = c.in_ok-along.ensures ∙ ap (filter (λ (e : Path × ℕ). begins c.args.from.now e.0)) (sym (finite.entries-from_sorted path_cmp c.args.numbers.now.entries c.requires.sorted))

led_is : (c : In_ok-led) → c.in_ok-led.led.items ≡ moved_entries c.args.from.now c.args.to.now (filter (λ e. begins c.args.from.now e.0) (finite.entries (numbers_of c.args.numbers.now.entries)))
led_is c = c.in_ok-led.ensures ∙ ap (λ (es : List (Path × ℕ)). moved_entries c.args.from.now c.args.to.now es) (c.deref.ensures.value ∙ along_is c)

pub returns-in-Ok-clause-moved : goal.returns-in-Ok-clause-moved
returns-in-Ok-clause-moved c =
    let k = (goal.at.returns-in-Ok-clause-moved c).In_ok-led in
    c.remove_all.ensures.all
    ∙ ap (λ (es : List (Path × ℕ)). without_all (numbers_of c.put_all.new.numbers.entries) es) (c.deref-in-Ok.ensures.value ∙ along_is k)
    ∙ ap (λ (m : Numbers). without_all m (filter (λ e. begins c.args.from.now e.0) (finite.entries (numbers_of c.args.numbers.now.entries))))
    (c.in-Ok.ensures.all ∙ ap (λ (es : List (Path × ℕ)). put_all (numbers_of c.args.numbers.now.entries) es) (c.deref-2.ensures.value ∙ led_is k))
    ∙ moves c.args.from.now c.args.to.now (numbers_of c.args.numbers.now.entries) c.requires.spare

pub returns-clause-err : goal.returns-clause-err
returns-clause-err c =
    let k = (goal.at.returns-clause-err c).In_ok-led in
    same_numbers c.remove_all-in-Err.new.numbers.entries c.args.numbers.now.entries c.remove_all-in-Err.ensures.sorted c.requires.sorted
    (c.remove_all-in-Err.ensures.all
    ∙ ap (λ (es : List (Path × ℕ)). without_all (numbers_of c.put_all.new.numbers.entries) es) (c.deref-in-Err.ensures.value ∙ led_is k)
    ∙ undone c.args.from.now c.args.to.now (numbers_of c.args.numbers.now.entries) c.requires.spare (numbers_of c.put_all.new.numbers.entries)
    (λ q off. c.put_all.ensures.others q (ap (λ (es : List (Path × ℕ)). is_among q es) (c.deref-2.ensures.value ∙ led_is k) ∙ off)))

pub returns-in_err-led-clause-moved : goal.returns-in_err-led-clause-moved
returns-in_err-led-clause-moved c = IfOk-from_err _ _ c.from_residual-in_err-led.ensures.0

pub returns-in_err-along-clause-moved : goal.returns-in_err-along-clause-moved
returns-in_err-along-clause-moved c = IfOk-from_err _ _ c.from_residual.ensures.0
