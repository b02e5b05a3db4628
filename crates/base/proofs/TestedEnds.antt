-- A test of a text by its two ends, which cover it.
use Rattle.std.proofs.Common.{◌≡◌, ℕ, zero, suc, ◌≤◌, ◌-◌, ◌*◌, Bool, true, false, not, ◌||◌, ◌&&◌, List, [], ◌∷◌, take, drop, length, refl, ◌∙◌, arith}
use Rattle.std.specs.List.{list_any, list_all}
use Rattle.std.proofs.lemmas.List.{take_all, length-drop}

absorbed : (p : ℕ → Bool) (xs : List ℕ) (k : ℕ) → (list_any p (take k xs) || list_any p xs) ≡ list_any p xs
absorbed p xs zero = refl
absorbed p [] (suc k) = refl
absorbed p (x ∷ xs) (suc k) =
    elim (p x) as (λ b. ((b || list_any p (take k xs)) || (b || list_any p xs)) ≡ (b || list_any p xs)) [
      | true ↦ refl
      | false ↦ absorbed p xs k
    ]

-- the first k, and what is behind the first j
covered : (p : ℕ → Bool) (xs : List ℕ) (k j : ℕ) → j ≤ k → (list_any p (take k xs) || list_any p (drop j xs)) ≡ list_any p xs
covered p xs k zero le = absorbed p xs k
covered p xs zero (suc j) le = absurd (omega (arith, le))
covered p [] (suc k) (suc j) le = refl
covered p (x ∷ xs) (suc k) (suc j) le =
    elim (p x) as (λ b. ((b || list_any p (take k xs)) || list_any p (drop j xs)) ≡ (b || list_any p xs)) [
      | true ↦ refl
      | false ↦ covered p xs k j (omega (arith, le))
    ]

-- what runs of one length at the ends are
pub back_of : (xs : List ℕ) (len : ℕ) → take (length xs - (length xs - len)) (drop (length xs - len) xs) ≡ drop (length xs - len) xs
back_of xs len = take_all (length xs - (length xs - len)) (drop (length xs - len) xs) (omega (arith, length-drop (length xs - len) xs))

pub any_at_ends : (p : ℕ → Bool) (xs : List ℕ) (len : ℕ) → (len ≤ length xs) × (length xs ≤ 2 * len) → (list_any p (take len xs) || list_any p (take (length xs - (length xs - len)) (drop (length xs - len) xs))) ≡ list_any p xs
any_at_ends p xs len h =
    (λ j. list_any p (take len xs) || list_any p (back_of xs len j)) ∙ covered p xs len (length xs - len) (omega (arith, h.0, h.1))

-- none fails a test where all pass it
pub none_fails : (p : ℕ → Bool) (xs : List ℕ) → not (list_any (λ x. not (p x)) xs) ≡ list_all p xs
none_fails p [] = refl
none_fails p (x ∷ xs) =
    elim (p x) as (λ b. not (not b || list_any (λ y. not (p y)) xs) ≡ (b && list_all p xs)) [
      | true ↦ none_fails p xs
      | false ↦ refl
    ]
