use Rattle.std.proofs.Common.{◌∙◌, ◌||◌, List, ℕ, Bool, ◌+◌, map, drop, Bor, ap, sym}
use Rattle.std.proofs.lemmas.List.{at_drop_more}
use Rattle.checks.specs.NearNames.{is_one_of}
use Rattle.checks.proofs.near_names.is_one_of.Goals as goal

abbrev left : List ℕ → List (Bor (List ℕ)) → Bool
left name ks = is_one_of (map (λ k. k.now) ks) name

pub returns-then-are_alike : goal.returns-then-are_alike
returns-then-are_alike c =
    let name = c.args.name.now in
    let known = c.args.known.now in
    let i = c.loop-k.k-index in
    sym (ap (λ (b : Bool). b || left name (drop (i + 1) known)) (sym c.are_alike.ensures ∙ c.if-are_alike.true)) ∙ sym (at_drop_more (left name) known i _ c.loop-k-test.true) ∙ c.loop-k.invariant

pub loop-k-preserved : goal.loop-k-preserved
loop-k-preserved c =
    let name = c.args.name.now in
    let known = c.args.known.now in
    let i = c.loop-k.k-index in
    sym (ap (λ (b : Bool). b || left name (drop (i + 1) known)) (sym c.are_alike.ensures ∙ c.if-are_alike.false)) ∙ sym (at_drop_more (left name) known i _ c.loop-k-test.true) ∙ c.loop-k.invariant
