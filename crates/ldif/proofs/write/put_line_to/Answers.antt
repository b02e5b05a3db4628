use Rattle.std.proofs.Common.{ℕ, List, ◌++◌, sym, ap, ◌∙◌, refl, arith}
use Rattle.std.proofs.lemmas.Bool.{eqb-false}
use Rattle.std.proofs.lemmas.Result.{on_ok_weaker}
use Rattle.ldif.proofs.Folds.{folded_plain}
use Rattle.ldif.proofs.write.put_line_to.Goals as goal

pub returns-then-is_surely_plain-clause-put : goal.returns-then-is_surely_plain-clause-put
returns-then-is_surely_plain-clause-put c =
    let whole =
    folded_plain c.args.width c.args.name.now c.args.value.now
    (omega (arith, c.if-name-value.true, c.bytes.ensures.same))
    (let e = eqb-false _ _ (sym c.if-not-is_empty.ensures) in omega arith)
    (c.if-is_surely_plain.ensures refl) in
    on_ok_weaker c.put_short.result (λ put. put ∙ ap (λ (xs : List ℕ). c.args.out.now.items ++ xs) whole) c.put_short.ensures.put
