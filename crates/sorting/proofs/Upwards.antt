-- The texts of a name and of those above it, one after the other.
use Rattle.std.proofs.Common.{◌≡◌, ℕ, ◌+◌, ◌-◌, ◌<◌, List, [], ◌∷◌, ◌++◌, length, get_or, take, drop, sym, ap, ◌∙◌, append_assoc, arith}
use Rattle.std.proofs.lemmas.List.{drop_more, take_all, length-drop}
use Rattle.sorting.specs.NormalNames.{name_text, texts_up}

pub one_more : (rdns : List (List ℕ)) (i : ℕ) (so_far new : List (List ℕ)) (text : List ℕ) (total : List (List ℕ)) → i < length rdns → text ≡ name_text (take (length rdns - i) (drop i rdns)) → new ≡ so_far ++ text ∷ []
    → so_far ++ texts_up (drop i rdns) ≡ total → new ++ texts_up (drop (i + 1) rdns) ≡ total
one_more rdns i so_far new text total lt is put h =
    ap (λ (l : List (List ℕ)). l ++ texts_up (drop (i + 1) rdns)) put
    ∙ append_assoc so_far (text ∷ []) (texts_up (drop (i + 1) rdns))
    ∙ ap (λ (t : List ℕ). so_far ++ t ∷ texts_up (drop (i + 1) rdns)) (is ∙ ap name_text (take_all (length rdns - i) (drop i rdns) (omega (arith, length-drop i rdns)) ∙ cut))
    ∙ sym (ap (λ (l : List (List ℕ)). so_far ++ texts_up l) cut)
    ∙ h
  where
    cut : drop i rdns ≡ get_or rdns i [] ∷ drop (i + 1) rdns
    cut = drop_more rdns i [] lt
