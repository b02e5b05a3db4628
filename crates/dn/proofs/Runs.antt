-- The longest run of bytes at the front that pass a test.
use Rattle.std.proofs.Common.{◌≡◌, ℕ, zero, suc, ◌+◌, Bool, true, false, cond, ◌&&◌, List, [], ◌∷◌, ◌++◌, take, drop, length, refl, sym, ap, subst, ◌∙◌, arith}
use Rattle.std.specs.List.{list_all, prefix_len}
use Rattle.std.proofs.lemmas.Bool.{and_parts, eqb-true}
use Rattle.std.proofs.lemmas.List.{take-append-drop}
use Rattle.std.proofs.Math.Seq.{drop-append_seam, take-append_seam}
use Rattle.dn.specs.Spelling.{spaces}
use Rattle.base.proofs.Front.{front_is}
use Rattle.base.specs.Ends.{is_space, without_front}
use Rattle.dn.specs.NameFaults.{Stops}

one : (n : ℕ) → 1 + n ≡ suc n
one n = omega arith

module _ (p : ℕ → Bool) where
  front_by : (b : ℕ) (bs : List ℕ) (t : Bool) → p b ≡ t → list_all p (take (prefix_len p bs) bs) ≡ true → list_all p (take (cond t (1 + prefix_len p bs) 0) (b ∷ bs)) ≡ true
  front_by b bs true is h = ap (λ (n : ℕ). list_all p (take n (b ∷ bs))) (one (prefix_len p bs)) ∙ ap (λ (t : Bool). t && list_all p (take (prefix_len p bs) bs)) is ∙ h
  front_by b bs false is h = refl

  pub front_passes : (text : List ℕ) → list_all p (take (prefix_len p text) text) ≡ true
  front_passes [] = refl
  front_passes (b ∷ bs) = front_by b bs (p b) refl (front_passes bs)

  stops_by : (b : ℕ) (bs : List ℕ) (t : Bool) → p b ≡ t → Stops p (drop (prefix_len p bs) bs) → Stops p (drop (cond t (1 + prefix_len p bs) 0) (b ∷ bs))
  stops_by b bs true is h = subst (λ (n : ℕ). Stops p (drop n (b ∷ bs))) (sym (one (prefix_len p bs))) h
  stops_by b bs false is h = is

  pub rest_stops : (text : List ℕ) → Stops p (drop (prefix_len p text) text)
  rest_stops [] = tt
  rest_stops (b ∷ bs) = stops_by b bs (p b) refl (rest_stops bs)

  run_none : (ys : List ℕ) → Stops p ys → prefix_len p ys ≡ 0
  run_none [] h = refl
  run_none (y ∷ ys) h = ap (λ (t : Bool). cond t (1 + prefix_len p ys) 0) h

  run_len : (xs ys : List ℕ) → list_all p xs ≡ true → Stops p ys → prefix_len p (xs ++ ys) ≡ length xs
  run_len [] ys h g = run_none ys g
  run_len (x ∷ xs) ys h g =
      let k = and_parts (p x) (list_all p xs) h in
      ap (λ (t : Bool). cond t (1 + prefix_len p (xs ++ ys)) 0) k.0 ∙ ap (λ (n : ℕ). 1 + n) (run_len xs ys k.1 g) ∙ one (length xs)

  pub run_front : (xs ys : List ℕ) → list_all p xs ≡ true → Stops p ys → take (prefix_len p (xs ++ ys)) (xs ++ ys) ≡ xs
  run_front xs ys h g = ap (λ (n : ℕ). take n (xs ++ ys)) (run_len xs ys h g) ∙ take-append_seam xs ys

  pub run_rest : (xs ys : List ℕ) → list_all p xs ≡ true → Stops p ys → drop (prefix_len p (xs ++ ys)) (xs ++ ys) ≡ ys
  run_rest xs ys h g = ap (λ (n : ℕ). drop n (xs ++ ys)) (run_len xs ys h g) ∙ drop-append_seam xs ys

-- ---- spaces

pub all_spaces : (n : ℕ) → list_all is_space (spaces n) ≡ true
all_spaces zero = refl
all_spaces (suc n) = all_spaces n

pub spaces_are : (xs : List ℕ) → list_all is_space xs ≡ true → xs ≡ spaces (length xs)
spaces_are [] h = refl
spaces_are (x ∷ xs) h =
    let k = and_parts (is_space x) (list_all is_space xs) h in
    ap (λ (b : ℕ). b ∷ xs) (eqb-true x 32 k.0) ∙ ap (λ (bs : List ℕ). 32 ∷ bs) (spaces_are xs k.1)

-- a text is spaces and what is left of it
pub skipped : (text : List ℕ) → (n : ℕ) × (text ≡ spaces n ++ without_front text)
skipped text =
    let front = take (prefix_len is_space text) text in (
      length front,
      sym (take-append-drop (prefix_len is_space text) text) ∙ ap (λ (bs : List ℕ). bs ++ drop (prefix_len is_space text) text) (spaces_are front (front_passes is_space text))
          ∙ ap (λ (bs : List ℕ). spaces (length front) ++ bs) (sym (front_is text)),
    )

pub skip_stops : (text : List ℕ) → Stops is_space (without_front text)
skip_stops text = subst (Stops is_space) (sym (front_is text)) (rest_stops is_space text)

pub skip_spaces : (n : ℕ) (rest : List ℕ) → Stops is_space rest → without_front (spaces n ++ rest) ≡ rest
skip_spaces n rest h = front_is (spaces n ++ rest) ∙ run_rest is_space (spaces n) rest (all_spaces n) h
