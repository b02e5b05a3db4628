use Rattle.std.proofs.Common.{◌≡◌, ◌+◌, ℕ, List, [], ◌∷◌, ◌++◌, length, ap, ◌∙◌, append_assoc, arith}
use Rattle.std.proofs.lemmas.List.{length-append}
use Rattle.std.proofs.lemmas.Grind.{common_steps}
use Rattle.ldif.specs.Writing.{line_text}
use Rattle.ldif.proofs.Folds.{folded_short}
use Rattle.ldif.proofs.write.put_some.Goals as goal

pub returns-then-len-start-clause-put : goal.returns-then-len-start-clause-put
returns-then-len-start-clause-put c =
    let before = c.args.out.now.items in
    let text = line_text c.args.name.now c.args.value.now in
    let all : length c.put_text.new.out.items ≡ length before + length text = ap (λ (xs : List ℕ). length xs) c.in_ok-put_text.ensures.put ∙ length-append before text in
    c.in_ok-push.ensures.items ∙ ap (λ (xs : List ℕ). xs ++ 10 ∷ []) c.in_ok-put_text.ensures.put ∙ append_assoc before text (10 ∷ [])
    ∙ ap (λ (xs : List ℕ). before ++ xs) (folded_short c.args.width c.args.width text (omega (arith, all, c.len.ensures, c.len-start.ensures, c.bytes.ensures.same, c.if-len-start.true)))

pub returns-clause-put : goal.returns-clause-put
returns-clause-put c = grind (arith, common_steps)
