use Rattle.std.proofs.Common.{◌≡◌, ◌∙◌, ◌<◌, List, ℕ, length, get_or, sym, ap, arith}
use Rattle.std.proofs.lemmas.Grind.{common_steps}
use Rattle.std.proofs.lemmas.List.{take_more_same}
use Rattle.server_schema.proofs.kept.are_same.Goals as goal

pub loop-i-preserved : goal.loop-i-preserved
loop-i-preserved c =
    let a : List (List ℕ) = c.args.a.now in
    let b : List (List ℕ) = c.args.b.now in
    let i : ℕ = c.loop-i.i in
    let x : List ℕ = c.index-a-i.result in
    let same : x ≡ c.index-b-i.result = c.is_same.ensures c.if-not-is_same.false in
    let short : i < length b = grind (arith, common_steps) in
    take_more_same a b i x c.loop-i-test.true short c.loop-i.invariant
    (sym c.index-a-i.is ∙ same ∙ c.index-b-i.is ∙ ap (λ (d : List ℕ). get_or b i d) (sym same))
