-- The bytes up to the first one that passes a test.
use Rattle.std.proofs.Common.{◌≡◌, ℕ, suc, ◌+◌, ◌≤◌, Bool, true, false, cond, not, ◌&&◌, ltb, List, [], ◌∷◌, ◌++◌, take, drop, length, unwrap_or, Some, None, refl, sym, ap, subst, ◌∙◌, arith}
use Rattle.std.specs.List.{list_all, prefix_len}
use Rattle.std.proofs.lemmas.Bool.{and_parts}
use Rattle.std.proofs.lemmas.Bool.Decides.{nat_tests}
use Rattle.std.proofs.lemmas.List.Sums.{prefix_len-le-length}
use Rattle.std.proofs.lemmas.List.Folds.{length-prefix_len}
use Rattle.std.proofs.Math.Seq.{drop-append_seam, take-append_seam}
use Rattle.definitions.specs.Words.{end_of}

one : (n : ℕ) → 1 + n ≡ suc n
one n = omega arith

-- what comes next passes, if anything comes
abbrev pub Stops : (ℕ → Bool) → List ℕ → Type 0
Stops p [] = Unit {0}
Stops p (b ∷ bs) = p b ≡ true

end_by : (n len : ℕ) (t : Bool) → ltb n len ≡ t → n ≤ len → unwrap_or (cond t (Some n) None) len ≡ n
end_by n len true e le = refl
end_by n len false e le = grind (arith, nat_tests)

module _ (p : ℕ → Bool) where
  abbrev other : ℕ → Bool
  other b = not (p b)

  end_is : (text : List ℕ) → end_of p text ≡ prefix_len other text
  end_is text = end_by (prefix_len other text) (length text) (ltb (prefix_len other text) (length text)) refl (prefix_len-le-length other text)

  front_by : (b : ℕ) (bs : List ℕ) (t : Bool) → p b ≡ t → list_all other (take (prefix_len other bs) bs) ≡ true → list_all other (take (cond (not t) (1 + prefix_len other bs) 0) (b ∷ bs)) ≡ true
  front_by b bs false is h = ap (λ (n : ℕ). list_all other (take n (b ∷ bs))) (one (prefix_len other bs)) ∙ ap (λ (t : Bool). not t && list_all other (take (prefix_len other bs) bs)) is ∙ h
  front_by b bs true is h = refl

  front_all : (text : List ℕ) → list_all other (take (prefix_len other text) text) ≡ true
  front_all [] = refl
  front_all (b ∷ bs) = front_by b bs (p b) refl (front_all bs)

  -- none before the end passes
  pub front_passes : (text : List ℕ) → list_all other (take (end_of p text) text) ≡ true
  front_passes text = ap (λ (n : ℕ). list_all other (take n text)) (end_is text) ∙ front_all text

  stops_by : (b : ℕ) (bs : List ℕ) (t : Bool) → p b ≡ t → Stops p (drop (prefix_len other bs) bs) → Stops p (drop (cond (not t) (1 + prefix_len other bs) 0) (b ∷ bs))
  stops_by b bs false is h = subst (λ (n : ℕ). Stops p (drop n (b ∷ bs))) (sym (one (prefix_len other bs))) h
  stops_by b bs true is h = is

  all_stops : (text : List ℕ) → Stops p (drop (prefix_len other text) text)
  all_stops [] = tt
  all_stops (b ∷ bs) = stops_by b bs (p b) refl (all_stops bs)

  pub rest_stops : (text : List ℕ) → Stops p (drop (end_of p text) text)
  rest_stops text = subst (λ (n : ℕ). Stops p (drop n text)) (sym (end_is text)) (all_stops text)

  run_none : (ys : List ℕ) → Stops p ys → prefix_len other ys ≡ 0
  run_none [] h = refl
  run_none (y ∷ ys) h = ap (λ (t : Bool). cond (not t) (1 + prefix_len other ys) 0) h

  run_len : (xs ys : List ℕ) → list_all other xs ≡ true → Stops p ys → prefix_len other (xs ++ ys) ≡ length xs
  run_len [] ys h g = run_none ys g
  run_len (x ∷ xs) ys h g =
      let k = and_parts (other x) (list_all other xs) h in
      ap (λ (t : Bool). cond t (1 + prefix_len other (xs ++ ys)) 0) k.0 ∙ ap (λ (n : ℕ). 1 + n) (run_len xs ys k.1 g) ∙ one (length xs)

  pub run_end : (xs ys : List ℕ) → list_all other xs ≡ true → Stops p ys → end_of p (xs ++ ys) ≡ length xs
  run_end xs ys h g = end_is (xs ++ ys) ∙ run_len xs ys h g

  pub run_front : (xs ys : List ℕ) → list_all other xs ≡ true → Stops p ys → take (end_of p (xs ++ ys)) (xs ++ ys) ≡ xs
  run_front xs ys h g = ap (λ (n : ℕ). take n (xs ++ ys)) (run_end xs ys h g) ∙ take-append_seam xs ys

  pub run_rest : (xs ys : List ℕ) → list_all other xs ≡ true → Stops p ys → drop (end_of p (xs ++ ys)) (xs ++ ys) ≡ ys
  run_rest xs ys h g = ap (λ (n : ℕ). drop n (xs ++ ys)) (run_end xs ys h g) ∙ drop-append_seam xs ys

  pub end_len : (text : List ℕ) → length (take (end_of p text) text) ≡ end_of p text
  end_len text = ap (λ (n : ℕ). length (take n text)) (end_is text) ∙ length-prefix_len other text ∙ sym (end_is text)
