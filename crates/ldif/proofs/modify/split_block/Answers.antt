use Rattle.std.proofs.Common.{◌≡◌, ℕ, ◌∷◌, ◌++◌, List, [], take, sym, ap, ◌∙◌, arith}
use Rattle.std.proofs.lemmas.Grind.{common_steps}
use Rattle.std.proofs.lemmas.List.{append-nil}
use Rattle.ldif.specs.Reading.{blocks}
use Rattle.ldif.proofs.Blocks.{blocks_at, blocks_none, plain_push, take_push, rest_push, within_push}
use Rattle.ldif.proofs.modify.split_block.Goals as goal

pub returns-then-is_dash-clause-parts : goal.returns-then-is_dash-clause-parts
returns-then-is_dash-clause-parts c =
    let ls = c.args.lines.now in
    let front = take c.walk.len ls in
    let cut : ls ≡ front ++ c.in-Some.line.now ∷ c.in-Some.after = c.walk.invariant.parts ∙ ap (λ (r : List (List ℕ)). front ++ r) c.in-Some.ensures in
    ap blocks cut
    ∙ blocks_at front c.in-Some.line.now c.in-Some.after c.walk.invariant.plain (sym c.is_dash.ensures ∙ c.if-is_dash.true)
    ∙ ap (λ (f : List (List ℕ)). f ∷ blocks c.in-Some.after) (sym c.front.ensures)

pub walk-preserved : goal.walk-preserved
walk-preserved c =
    let ls = c.args.lines.now in
    let front = take c.walk.len ls in
    let cut : ls ≡ front ++ c.in-Some.line.now ∷ c.in-Some.after = c.walk.invariant.parts ∙ ap (λ (r : List (List ℕ)). front ++ r) c.in-Some.ensures in
    record {
      parts = rest_push c.walk.len ls _ _ c.walk.invariant.within cut;
      within = within_push c.walk.len ls _ _ c.walk.invariant.within cut;
      plain = rw (take_push c.walk.len ls _ _ c.walk.invariant.within cut) (plain_push front _ c.walk.invariant.plain (sym c.is_dash.ensures ∙ c.if-is_dash.false));
    }

pub returns-clause-parts : goal.returns-clause-parts
returns-clause-parts c =
    let ls = c.args.lines.now in
    let front = take c.walk.len ls in
    let whole : ls ≡ front = c.walk.invariant.parts ∙ ap (λ (r : List (List ℕ)). front ++ r) c.in_default.ensures ∙ append-nil front in
    ap blocks whole ∙ blocks_none front (rw (← whole) c.requires) c.walk.invariant.plain ∙ ap (λ (f : List (List ℕ)). f ∷ blocks []) (sym c.front-2.ensures) ∙ ap (λ (r : List (List ℕ)). c.front-2.result ∷ blocks r) (sym c.in_default.ensures)

pub overflow_add-len : goal.overflow_add-len
overflow_add-len c = grind (arith, common_steps)

pub returns-then-is_dash-clause-fewer : goal.returns-then-is_dash-clause-fewer
returns-then-is_dash-clause-fewer c = grind (arith, common_steps)
