-- Texts with a byte between them.
use Rattle.std.proofs.Common.{◌≡◌, ℕ, ◌+◌, ◌-◌, ◌<◌, ◌≤◌, List, [], ◌∷◌, ◌++◌, map, length, get_or, take, drop, sym, ap, ◌∙◌, append_assoc, arith}
use Rattle.std.specs.List.{flat_map, join_with_byte}
use Rattle.std.proofs.lemmas.List.{append-nil, drop_more, drop_all, take_all}

-- ---- texts joined

joined_is : {X : Type 0} (sep : ℕ) (text : X → List ℕ) (x : X) (xs : List X) → join_with_byte sep (map text (x ∷ xs)) ≡ text x ++ flat_map (λ y. sep ∷ text y) xs
joined_is sep text x [] = sym (append-nil (text x))
joined_is sep text x (y ∷ ys) = ap (λ (bs : List ℕ). text x ++ sep ∷ bs) (joined_is sep text y ys)

pub joined_rest : {X : Type 0} (sep : ℕ) (text : X → List ℕ) (xs : List X) (x : X) (start mid new : List ℕ) → 0 < length xs → x ≡ get_or xs 0 x → mid ≡ start ++ text x
    → new ≡ mid ++ flat_map (λ y. sep ∷ text y) (take (length xs - 1) (drop 1 xs)) → new ≡ start ++ join_with_byte sep (map text xs)
joined_rest sep text [] x start mid new lt first put more = absurd (omega arith)
joined_rest {X} sep text (y ∷ ys) x start mid new lt first put more =
    more
    ∙ ap (λ (zs : List X). mid ++ flat_map (λ y. sep ∷ text y) zs) (take_all (length (y ∷ ys) - 1) ys (omega arith))
    ∙ ap (λ (bs : List ℕ). bs ++ flat_map (λ y. sep ∷ text y) ys) (put ∙ ap (λ (z : X). start ++ text z) first)
    ∙ append_assoc start (text y) (flat_map (λ y. sep ∷ text y) ys)
    ∙ sym (ap (λ (bs : List ℕ). start ++ bs) (joined_is sep text y ys))

-- ---- texts with a byte before each

module _ {X : Type 0} (sep : ℕ) (text : X → List ℕ) (xs : List X) (i : ℕ) where
  pub one_put : (x : X) (out mid new total : List ℕ) → i < length xs → x ≡ get_or xs i x → mid ≡ out ++ sep ∷ [] → new ≡ mid ++ text x
      → out ++ flat_map (λ y. sep ∷ text y) (drop i xs) ≡ total → new ++ flat_map (λ y. sep ∷ text y) (drop (i + 1) xs) ≡ total
  one_put x out mid new total lt is sign put so_far =
      let rest = flat_map (λ y. sep ∷ text y) (drop (i + 1) xs) in
      let cut : drop i xs ≡ x ∷ drop (i + 1) xs = drop_more xs i x lt ∙ ap (λ (y : X). y ∷ drop (i + 1) xs) (sym is) in
      ap (λ (bs : List ℕ). bs ++ rest) (put ∙ ap (λ (bs : List ℕ). bs ++ text x) sign)
      ∙ append_assoc (out ++ sep ∷ []) (text x) rest
      ∙ append_assoc out (sep ∷ []) (text x ++ rest)
      ∙ sym (ap (λ (ys : List X). out ++ flat_map (λ y. sep ∷ text y) ys) cut)
      ∙ so_far

  pub all_put : (out total : List ℕ) → length xs ≤ i → out ++ flat_map (λ y. sep ∷ text y) (drop i xs) ≡ total → out ≡ total
  all_put out total le so_far = sym (ap (λ (ys : List X). out ++ flat_map (λ y. sep ∷ text y) ys) (drop_all i xs le) ∙ append-nil out) ∙ so_far
