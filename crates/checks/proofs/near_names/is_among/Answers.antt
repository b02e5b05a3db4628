use Rattle.std.proofs.Common.{◌∙◌, ◌||◌, List, ℕ, Bool, ◌+◌, map, drop, Bor, ap, sym}
use Rattle.std.proofs.lemmas.List.{at_drop_more}
use Rattle.checks.specs.NearNames.{is_among}
use Rattle.checks.proofs.near_names.is_among.Goals as goal

abbrev left : List ℕ → List (Bor (List ℕ)) → Bool
left name ks = is_among (map (λ k. k.now) ks) name

pub returns-then-is_same : goal.returns-then-is_same
returns-then-is_same c =
    let name = c.args.oid.now in
    let known = c.args.known.now in
    let i = c.loop-k.k-index in
    sym (ap (λ (b : Bool). b || left name (drop (i + 1) known)) (sym c.is_same.ensures ∙ c.if-is_same.true)) ∙ sym (at_drop_more (left name) known i _ c.loop-k-test.true) ∙ c.loop-k.invariant

pub loop-k-preserved : goal.loop-k-preserved
loop-k-preserved c =
    let name = c.args.oid.now in
    let known = c.args.known.now in
    let i = c.loop-k.k-index in
    sym (ap (λ (b : Bool). b || left name (drop (i + 1) known)) (sym c.is_same.ensures ∙ c.if-is_same.false)) ∙ sym (at_drop_more (left name) known i _ c.loop-k-test.true) ∙ c.loop-k.invariant
