use Rattle.std.proofs.Common.{◌≡◌, List, ℕ, ◌∙◌, sym, ap, ◌++◌, ◌∷◌, [], arith}
use Rattle.definitions.specs.Words.{quoted_at}
use Rattle.definitions.specs.Texts.{to_close}
use Rattle.definitions.proofs.ToClose.{nothing_front, goes_on, closes, stops, runs_out}
use Rattle.definitions.proofs.texts.quoted_to_close.Goals as goal

pub loop-init : goal.loop-init
loop-init c = let none : c.new-texts.result.items ≡ [] = c.new-texts.ensures.items in rw none (nothing_front (to_close quoted_at c.args.text.now c.args.text.now))

pub returns-in-Some : goal.returns-in-Some
returns-in-Some c = closes quoted_at c.args.text.now c.loop.index c.loop.rest.now c.loop.texts.items _ c.in-Some.behind.now c.loop-test.true (sym c.in-Some.ensures) c.loop.invariant

pub returns-in_default-quoted_at : goal.returns-in_default-quoted_at
returns-in_default-quoted_at c = stops quoted_at c.args.text.now c.loop.index c.loop.rest.now c.loop.texts.items _ c.loop-test.true (sym c.in_default.ensures) (sym c.in_default-quoted_at.ensures) c.loop.invariant

pub loop-preserved : goal.loop-preserved
loop-preserved c =
    let pushed : c.push.new.self.items ≡ c.loop.texts.items ++ c.in-Some-quoted_at.found.now ∷ [] = c.in_ok-push.ensures.items ∙ ap (λ (text : List ℕ). c.loop.texts.items ++ text ∷ []) c.in_ok-from_slice.ensures in
    rw pushed
    (goes_on quoted_at c.args.text.now c.loop.index c.loop.rest.now c.loop.texts.items _ (c.in-Some-quoted_at.found.now, c.in-Some-quoted_at.behind.now) c.loop-test.true
    (sym c.in_default.ensures) (sym c.in-Some-quoted_at.ensures) c.loop.invariant)

pub returns : goal.returns
returns c = runs_out quoted_at c.args.text.now c.loop.index c.loop.rest.now c.loop.texts.items _ (omega (arith, c.loop-test.false)) c.loop.invariant
