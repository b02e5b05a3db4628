-- Texts that a loop writes one after the other, with a byte between each two.
use Rattle.std.proofs.Common.{◌≡◌, ℕ, ◌+◌, ◌<◌, ◌≤◌, List, [], ◌∷◌, ◌++◌, map, length, get_or, drop, refl, sym, ap, ◌∙◌, append_assoc}
use Rattle.std.specs.List.{join_with_byte}
use Rattle.std.proofs.lemmas.List.{append-nil, drop_more, drop_all}

-- the first of them behind a sign
abbrev pub behind : ℕ → List ℕ → List (List ℕ) → List ℕ
behind sep sign [] = []
behind sep sign (t ∷ ts) = sign ++ (t ++ behind sep (sep ∷ []) ts)

pub behind_nothing : (sep : ℕ) (ts : List (List ℕ)) → behind sep [] ts ≡ join_with_byte sep ts
behind_nothing sep [] = refl
behind_nothing sep (t ∷ []) = append-nil t
behind_nothing sep (t ∷ u ∷ ts) = ap (λ (bs : List ℕ). t ++ sep ∷ bs) (behind_nothing sep (u ∷ ts))

module _ {X : Type 0} (sep : ℕ) (text : X → List ℕ) (xs : List X) (i : ℕ) where
  pub one_put : (x : X) (sign out mid new total : List ℕ) → i < length xs → x ≡ get_or xs i x → mid ≡ out ++ sign → new ≡ mid ++ text x
      → out ++ behind sep sign (map text (drop i xs)) ≡ total → new ++ behind sep (sep ∷ []) (map text (drop (i + 1) xs)) ≡ total
  one_put x sign out mid new total lt is before put so_far =
      let rest = behind sep (sep ∷ []) (map text (drop (i + 1) xs)) in
      let cut : drop i xs ≡ x ∷ drop (i + 1) xs = drop_more xs i x lt ∙ ap (λ (y : X). y ∷ drop (i + 1) xs) (sym is) in
      ap (λ (bs : List ℕ). bs ++ rest) (put ∙ ap (λ (bs : List ℕ). bs ++ text x) before)
      ∙ append_assoc (out ++ sign) (text x) rest
      ∙ append_assoc out sign (text x ++ rest)
      ∙ sym (ap (λ (ys : List X). out ++ behind sep sign (map text ys)) cut)
      ∙ so_far

  pub all_put : (sign old out : List ℕ) → length xs ≤ i → out ++ behind sep sign (map text (drop i xs)) ≡ old ++ behind sep [] (map text xs)
      → out ≡ old ++ join_with_byte sep (map text xs)
  all_put sign old out le so_far =
      sym (ap (λ (ys : List X). out ++ behind sep sign (map text ys)) (drop_all i xs le) ∙ append-nil out)
      ∙ so_far
      ∙ ap (λ (bs : List ℕ). old ++ bs) (behind_nothing sep (map text xs))
