use Rattle.std.proofs.Common.{ℕ, List, [], ◌∷◌, ◌++◌, ap, ◌∙◌}
use Rattle.ldif.proofs.Folds.{short_line}
use Rattle.ldif.proofs.write.put_short.Goals as goal

pub returns-clause-put : goal.returns-clause-put
returns-clause-put c =
    c.push_reserved-3.ensures.items
    ∙ ap (λ (xs : List ℕ). xs ++ 10 ∷ [])
    (c.in_ok-extend_from_slice-2.ensures.items
    ∙ ap (λ (xs : List ℕ). xs ++ c.args.value.now)
    (c.push_reserved-2.ensures.items
    ∙ ap (λ (xs : List ℕ). xs ++ 32 ∷ [])
    (c.push_reserved.ensures.items
    ∙ ap (λ (xs : List ℕ). xs ++ 58 ∷ []) (c.in_ok-extend_from_slice.ensures.items ∙ ap (λ (xs : List ℕ). xs ++ c.args.name.now) c.in_ok-reserve.ensures.items))))
    ∙ short_line c.args.out.now.items c.args.name.now c.args.value.now c.requires.some c.requires.plain
