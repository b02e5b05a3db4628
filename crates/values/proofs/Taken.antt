-- What a loop has gone through of a list.
use Rattle.std.proofs.Common.{◌≡◌, ℕ, ◌+◌, ◌<◌, ◌≤◌, List, [], ◌∷◌, ◌++◌, length, get_or, take, sym, ap, ◌∙◌}
use Rattle.std.proofs.lemmas.List.{take_more, take_all}

module _ {X : Type 0} (xs : List X) (i : ℕ) where
  pub one_taken : (x : X) → i < length xs → x ≡ get_or xs i x → take (i + 1) xs ≡ take i xs ++ x ∷ []
  one_taken x lt is = take_more xs i x lt ∙ ap (λ (y : X). take i xs ++ y ∷ []) (sym is)

  pub all_taken : (all : List X) → xs ≡ all → length xs ≤ i → take i xs ≡ all
  all_taken all same le = take_all i xs le ∙ same
