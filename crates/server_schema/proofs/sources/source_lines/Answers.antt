use Rattle.std.proofs.Common.{◌≡◌, ◌∙◌, List, [], ◌∷◌, ℕ, Bor, map, refl, sym, ap, subst}
use Rattle.std.specs.Prelude.{IfOk}
use Rattle.std.specs.Str.Lines.{strip_carriage_return}
use Rattle.server_schema.specs.Sources.{all_lines, source_lines}
use Rattle.server_schema.proofs.sources.source_lines.Goals as goal

stripped : (xs : List (Bor (List ℕ))) → map (λ x. strip_carriage_return x.now) xs ≡ map strip_carriage_return (map (λ x. x.now) xs)
stripped [] = refl
stripped (x ∷ xs) = ap (λ (ls : List (List ℕ)). strip_carriage_return x.now ∷ ls) (stripped xs)

pub returns-in-Some : goal.returns-in-Some
unfolding source_lines
returns-in-Some c =
    let read = ap (λ (xs : List (Bor (List ℕ))). all_lines (map (λ x. strip_carriage_return x.now) xs)) (sym c.in-Some.ensures.cases.0 ∙ c.deref.ensures.value) in
    let cut = ap all_lines (stripped c.in_ok-stretches.stretches.items) ∙ ap (λ (ss : List (List ℕ)). all_lines (map strip_carriage_return ss)) c.in_ok-stretches.ensures in
    subst (λ (ls : List (List ℕ)). IfOk c.lines_from.result (λ v. v.items ≡ ls)) (read ∙ cut) c.lines_from.ensures
