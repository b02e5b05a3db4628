-- A search for a space that follows a space at the two ends of a text, which cover it.
use Rattle.std.proofs.Common.{◌≡◌, ℕ, zero, suc, ◌≤◌, ◌<◌, ◌-◌, ◌*◌, Bool, true, false, ◌||◌, ◌&&◌, List, [], ◌∷◌, take, drop, length, refl, ◌∙◌, arith}
use Rattle.base.specs.Ends.{is_space}
use Rattle.base.proofs.TestedEnds.{back_of}
use Rattle.matching.specs.inner.Gaps.{has_wide_gap_after}

gap_absorbed : (spaced : Bool) (xs : List ℕ) (k : ℕ) → (has_wide_gap_after spaced (take k xs) || has_wide_gap_after spaced xs) ≡ has_wide_gap_after spaced xs
gap_absorbed spaced xs zero = refl
gap_absorbed spaced [] (suc k) = refl
gap_absorbed spaced (x ∷ xs) (suc k) =
    elim (spaced && is_space x) as (λ b. ((b || has_wide_gap_after (is_space x) (take k xs)) || (b || has_wide_gap_after (is_space x) xs)) ≡ (b || has_wide_gap_after (is_space x) xs)) [
      | true ↦ refl
      | false ↦ gap_absorbed (is_space x) xs k
    ]

gap_covered : (spaced : Bool) (xs : List ℕ) (k j : ℕ) → j < k → (has_wide_gap_after spaced (take k xs) || has_wide_gap_after false (drop j xs)) ≡ has_wide_gap_after spaced xs
gap_covered spaced xs zero j lt = absurd (omega (arith, lt))
gap_covered spaced [] (suc k) zero lt = refl
gap_covered spaced [] (suc k) (suc j) lt = refl
gap_covered spaced (x ∷ xs) (suc k) zero lt =
    elim (spaced && is_space x) as (λ b. ((b || has_wide_gap_after (is_space x) (take k xs)) || has_wide_gap_after (is_space x) xs) ≡ (b || has_wide_gap_after (is_space x) xs)) [
      | true ↦ refl
      | false ↦ gap_absorbed (is_space x) xs k
    ]
gap_covered spaced (x ∷ xs) (suc k) (suc j) lt =
    elim (spaced && is_space x) as (λ b. ((b || has_wide_gap_after (is_space x) (take k xs)) || has_wide_gap_after false (drop j xs)) ≡ (b || has_wide_gap_after (is_space x) xs)) [
      | true ↦ refl
      | false ↦ gap_covered (is_space x) xs k j (omega (arith, lt))
    ]

pub gap_at_ends : (xs : List ℕ) (len : ℕ) → (len ≤ length xs) × (length xs < 2 * len) → (has_wide_gap_after false (take len xs) || has_wide_gap_after false (take (length xs - (length xs - len)) (drop (length xs - len) xs))) ≡ has_wide_gap_after false xs
gap_at_ends xs len h =
    (λ j. has_wide_gap_after false (take len xs) || has_wide_gap_after false (back_of xs len j)) ∙ gap_covered false xs len (length xs - len) (omega (arith, h.0, h.1))
