use Rattle.std.proofs.Common.{List, ap, arith, sym, [], ℕ, ◌++◌, ◌∙◌, ◌∷◌}
use Rattle.std.proofs.lemmas.Result.{IfOk-from_err}
use Rattle.std.proofs.lemmas.Grind.{common_steps}
use Rattle.std.specs.Prelude.{take_while}
use Rattle.paths.specs.Paths.{Path, begins}
use Rattle.tree.proofs.Moving.{first_below, below_goes_on}
use Rattle.tree.proofs.moves.numbers_below.Goals as goal

pub loop-path-init : goal.loop-path-init
loop-path-init c =
    ap (λ (xs : List (Path × ℕ)). xs ++ take_while (λ e. begins c.args.base.now e.0) c.into_iter-path-iterator.result) c.new-found.ensures.items
    ∙ ap (λ (xs : List (Path × ℕ)). take_while (λ e. begins c.args.base.now e.0) xs) (c.into_iter-path-iterator.ensures.into_iter_gives ∙ c.range-path-items.ensures.between tt)
    ∙ first_below c.args.base.now c.args.numbers.now.entries c.requires

pub loop-path-preserved : goal.loop-path-preserved
loop-path-preserved c =
    let e : Path × ℕ = (c.in-Some.path.now, c.in-Some.number.now) in
    below_goes_on c.args.base.now c.loop-path.found.items c.push.new.self.items e c.loop-path.path-iterator c.next.new.self _
    c.in-Some.ensures.steps
    (c.in_ok-push.ensures.items ∙ ap (λ (p : Path). c.loop-path.found.items ++ (p, c.in-Some.number.now) ∷ []) c.in_ok-copy.ensures)
    (sym c.begins.ensures ∙ c.if-not-begins.false)
    c.loop-path.invariant

pub loop-path-smaller : goal.loop-path-smaller
loop-path-smaller c = grind (arith, common_steps)

pub returns-in_err-copy : goal.returns-in_err-copy
returns-in_err-copy c = IfOk-from_err _ _ c.from_residual.ensures.0

pub returns-in_err-push : goal.returns-in_err-push
returns-in_err-push c = IfOk-from_err _ _ c.from_residual-in_err-push.ensures.0
