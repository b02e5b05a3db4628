use Rattle.std.proofs.Common.{rules, tests, ◌≡◌, ℕ, List, length, take, subst, sym, ap, ◌∙◌}
use Rattle.std.specs.List.{zip}
use Rattle.std.specs.Map.Iter.{TakesFirst, deref}
use Rattle.std.proofs.lemmas.Iterator.{YieldsList, YieldsList-from_take, YieldsList-from_zip}
use Rattle.std.proofs.lemmas.Iterator.Consumers.{YieldsList-at, YieldsList-from_shown, count_from_yields_List}
use Rattle.std.proofs.lemmas.Iterator.Search.{YieldsList-from_take_while}
use Rattle.std.proofs.lemmas.List.Folds.{length-prefix_len}
use Rattle.index.proofs.Fronts.{are_same, same_front}
use Rattle.index.proofs.norm_fronts.common_front.Goals as goal

yields : (norms : List (List ℕ)) → YieldsList (TakesFirst deref) deref norms norms
yields norms = YieldsList-from_shown (TakesFirst deref) deref (λ (s : List (List ℕ)). s) (λ s t h. ap length h.0) (λ s x t h. h) norms

pub returns : goal.returns
returns c =
    let n : ℕ = 18446744073709551615 in
    let count =
    count_from_yields_List c.take_while.result _ c.count.ensures.ran
    (YieldsList-from_take_while _ are_same
    (YieldsList-at c.take_while.ensures.source (YieldsList-from_take n (YieldsList-at c.take.ensures.source (YieldsList-from_zip (YieldsList-at c.zip.ensures.first (yields c.args.left)) (YieldsList-at c.zip.ensures.second (yields c.args.right)))) c.take.ensures.count))
    c.take_while.ensures.closure c.take_while.ensures.done (λ x b q k. search (rules, tests)))
    ∙ length-prefix_len are_same (take n (zip c.args.left c.args.right)) in
    subst (λ (k : ℕ). take k c.args.left ≡ take k c.args.right) (sym count) (same_front n c.args.left c.args.right)
