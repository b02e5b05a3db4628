-- Lines that fit into memory are not folded to a width that says so.
use Rattle.std.proofs.Common.{◌≡◌, ◌∙◌, ◌<◌, ◌≤◌, ◌-◌, ◌^◌, ℕ, zero, suc, List, [], ◌∷◌, ◌++◌, length, length-append, ap, arith}
use Rattle.base.specs.Ascii.{line_feed}
use Rattle.ldif_lines.specs.Folding.{folded_to, folded_line}

-- nothing of a line is lost where it is folded
no_shorter : (width room : ℕ) (line : List ℕ) → length line ≤ length (folded_to width room line)
unfolding folded_to
no_shorter width room [] = omega arith
no_shorter width zero (b ∷ bs) = let h = no_shorter width (width - 2) bs in omega (arith, h)
no_shorter width (suc room) (b ∷ bs) = let h = no_shorter width room bs in omega (arith, h)

pub whole : (width : ℕ) (line old new : List ℕ) → ((l : List ℕ) → length l < 2 ^ 63 → folded_line width l ≡ l ++ line_feed ∷ [])
    → new ≡ old ++ folded_line width line → length new < 2 ^ 63 → new ≡ old ++ (line ++ line_feed ∷ [])
whole width line old new fits is bound =
    let long = no_shorter width width line in
    let parts = ap (λ (l : List ℕ). length l) is ∙ length-append old (folded_line width line) in
    is ∙ ap (λ (l : List ℕ). old ++ l) (fits line (omega (arith, long, parts, bound)))
