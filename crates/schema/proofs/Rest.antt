-- What is left of a list that a loop goes through.
use Rattle.std.proofs.Common.{◌≡◌, ℕ, ◌+◌, ◌<◌, ◌≤◌, List, [], ◌∷◌, length, get_or, drop, sym, ap, subst, ◌∙◌}
use Rattle.std.proofs.lemmas.List.{drop_more, drop_all}

module _ {X : Type 0} (xs ys : List X) (i : ℕ) (same : ys ≡ xs) where
  pub first_left : (x : X) → i < length ys → x ≡ get_or ys i x → drop i xs ≡ x ∷ drop (i + 1) xs
  first_left x lt is = subst (λ (zs : List X). drop i zs ≡ x ∷ drop (i + 1) zs) same (drop_more ys i x lt ∙ ap (λ (y : X). y ∷ drop (i + 1) ys) (sym is))

  pub none_left : length ys ≤ i → drop i xs ≡ []
  none_left le = ap (drop i) (sym same) ∙ drop_all i ys le
