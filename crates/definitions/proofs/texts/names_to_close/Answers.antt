use Rattle.std.proofs.Common.{◌≡◌, List, ℕ, ◌∙◌, sym, ap, ◌++◌, ◌∷◌, [], arith}
use Rattle.definitions.specs.Words.{◌>>>◌}
use Rattle.definitions.specs.Texts.{onto, to_close, next_name_at, names_to_close}
use Rattle.definitions.proofs.ToClose.{first_front, with_front, goes_on, closes, stops, runs_out}
use Rattle.definitions.proofs.texts.names_to_close.Goals as goal

pub returns-in_default : goal.returns-in_default
unfolding names_to_close
returns-in_default c = sym (λ j. c.in_default.ensures j >>> λ part. (to_close (next_name_at c.args.quotes) part.1 part.1 >>> onto part.0))

pub loop-init : goal.loop-init
unfolding names_to_close
loop-init c =
    let others = c.in-Some.others.now in
    let front : c.in_ok-names.names.items ≡ c.in-Some.first.now ∷ [] = c.in_ok-names.ensures in
    ap (λ (texts : List (List ℕ)). with_front texts (to_close (next_name_at c.args.quotes) others others)) front
    ∙ first_front c.in-Some.first.now (to_close (next_name_at c.args.quotes) others others)
    ∙ (λ j. c.in-Some.ensures j >>> λ part. (to_close (next_name_at c.args.quotes) part.1 part.1 >>> onto part.0))

pub returns-in-Some-sign_at : goal.returns-in-Some-sign_at
returns-in-Some-sign_at c = closes (next_name_at c.args.quotes) c.in-Some.others.now c.loop.index c.loop.rest.now c.loop.names.items _ c.in-Some-sign_at.behind.now c.loop-test.true (sym c.in-Some-sign_at.ensures) c.loop.invariant

pub returns-in_default-next_name_at : goal.returns-in_default-next_name_at
returns-in_default-next_name_at c = stops (next_name_at c.args.quotes) c.in-Some.others.now c.loop.index c.loop.rest.now c.loop.names.items _ c.loop-test.true (sym c.in_default-sign_at.ensures) (sym c.in_default-next_name_at.ensures) c.loop.invariant

pub loop-preserved : goal.loop-preserved
loop-preserved c =
    let pushed : c.push.new.self.items ≡ c.loop.names.items ++ c.in-Some-next_name_at.found.now ∷ [] = c.in_ok-push.ensures.items ∙ ap (λ (text : List ℕ). c.loop.names.items ++ text ∷ []) c.in_ok-from_slice.ensures in
    rw pushed
    (goes_on (next_name_at c.args.quotes) c.in-Some.others.now c.loop.index c.loop.rest.now c.loop.names.items _ (c.in-Some-next_name_at.found.now, c.in-Some-next_name_at.behind.now) c.loop-test.true
    (sym c.in_default-sign_at.ensures) (sym c.in-Some-next_name_at.ensures) c.loop.invariant)

pub returns : goal.returns
returns c = runs_out (next_name_at c.args.quotes) c.in-Some.others.now c.loop.index c.loop.rest.now c.loop.names.items _ (omega (arith, c.loop-test.false)) c.loop.invariant
