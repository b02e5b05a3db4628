-- Texts of pieces between stars.
use Rattle.std.proofs.Common.{◌≡◌, ℕ, Bool, List, [], ◌∷◌, ◌++◌, refl, sym, ap, subst, ◌∙◌, arith, false, true}
use Rattle.std.proofs.lemmas.Grind.{common_steps}
use Rattle.filter_text.specs.Runs.{Run, Stops, is_star}
use Rattle.filter_text.specs.Values.{is_value_byte, IsValue}
use Rattle.filter_text.specs.inner.Pieces.{IsStarred, IsPieces}
use Rattle.filter_text.proofs.Runs.{tail_eq, both_ways, stops_at, same_span}
use Rattle.filter_text.proofs.ValueTexts.{byte_first, one_value}

pub tail_stops : (qs : List (List ℕ)) (t : List ℕ) → IsStarred qs t → Stops is_value_byte t
tail_stops [] t h = subst (Stops is_value_byte) (sym h) tt
tail_stops (q ∷ qs) t h = subst (Stops is_value_byte) (sym h.3) refl

pub stops_after : (p : ℕ → Bool) (a x y : List ℕ) → Stops p (a ++ x) → (Stops p x → Stops p y) → Stops p (a ++ y)
stops_after p [] x y s f = f s
stops_after p (b ∷ a) x y s f = s

pub value_no_star : (b : ℕ) → is_value_byte b ≡ true → is_star b ≡ false
value_no_star b h = grind (arith, common_steps)

pub value_stops_star : (v t : List ℕ) → IsValue v t → Stops is_star (t ++ [])
value_stops_star [] t h = subst (λ (xs : List ℕ). Stops is_star (xs ++ [])) (sym h) tt
value_stops_star (b ∷ v) t h = let first = byte_first b t h.0 h.1 in subst (λ (xs : List ℕ). Stops is_star (xs ++ [])) (sym first.2) (value_no_star first.0 first.3)

pub tail_goes_on : (qs : List (List ℕ)) (rest more s after : List ℕ) → IsStarred qs rest → rest ≡ 42 ∷ more → Run is_star s → more ≡ s ++ after → Stops is_star after
    → (q : List ℕ) × (rs : List (List ℕ)) × (a : List ℕ) × (d : List ℕ) × (qs ≡ q ∷ rs) × IsValue q a × IsStarred rs d × (after ≡ a ++ d)
tail_goes_on [] rest more s after h e r cut stops = absurd (let clash : 42 ∷ more ≡ [] = sym e ∙ h in cc)
tail_goes_on (q ∷ rs) rest more s after h e r cut stops =
    (q, rs, h.1, h.2, refl, h.6, h.7, (same_span is_star s h.0 after (h.1 ++ h.2) r h.4 stops h.5 (sym cut ∙ tail_eq (sym e ∙ h.3))).1)

pub tail_ends : (qs : List (List ℕ)) (rest : List ℕ) → IsStarred qs rest → Stops is_star rest → (qs ≡ []) × (rest ≡ [])
tail_ends [] rest h s = (refl, h)
tail_ends (q ∷ rs) rest h s = absurd (both_ways refl (stops_at is_star 42 rest (h.0 ++ (h.1 ++ h.2)) s h.3))

pub pattern_first : (ps : List (List ℕ)) (v text a rest : List ℕ) → IsPieces ps text → IsValue v a → Stops is_value_byte rest → text ≡ a ++ rest
    → (qs : List (List ℕ)) × IsStarred qs rest × (ps ≡ v ∷ qs)
pattern_first [] v text a rest h k s e = absurd h
pattern_first (p ∷ qs) v text a rest h k s e =
    let same = one_value v p a h.0 rest h.1 k h.3 s (tail_stops qs h.1 h.4) (sym e ∙ h.2) in
    (qs, subst (IsStarred qs) (sym same.1) h.4, ap (λ z. z ∷ qs) (sym same.0))

pub pattern_value : (ps : List (List ℕ)) (text : List ℕ) → IsPieces ps text → (v : List ℕ) × (a : List ℕ) × (rest : List ℕ) × IsValue v a × Stops is_value_byte rest × (text ≡ a ++ rest)
pattern_value [] text h = absurd h
pattern_value (p ∷ qs) text h = (p, h.0, h.1, h.3, tail_stops qs h.1 h.4, h.2)
