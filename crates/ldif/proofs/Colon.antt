-- The first colon of a line.
use Rattle.std.proofs.Common.{◌≡◌, ℕ, zero, suc, ◌+◌, ◌*◌, ◌<◌, ◌≤◌, Bool, true, false, not, cond, eqb, leb, ltb, List, [], ◌∷◌, ◌++◌, length, map, get_or, take, drop, Option, Some, None, Result, Ok, Err, refl, sym, ap, subst, ◌∙◌, zero-add, arith}
use Rattle.std.specs.List.{position, position_or_len, prefix_len, list_all}
use Rattle.std.proofs.lemmas.Bool.{false_from_ne_true, lt-ltb, le-ltb, ne_eqb, and_parts, and_from, not-true, not_from_false}
use Rattle.std.proofs.lemmas.List.{take_at, length-append}
use Rattle.std.proofs.lemmas.List.Sums.{position_or_len_is}
use Rattle.std.proofs.lemmas.Simd.{length-chunk, trailing_mask_l, run_in_chunk_fails, run_in_chunk_stops}
use lib.Count.{count_trailing_zeros}
use lib.Lanes.{chunk, mask_l}
use Rattle.memchr.specs.Find.{IsFirstByte}
use Rattle.ldif.specs.declared.fault.LdifFaultKind.{LdifFaultKind}
use Rattle.ldif.specs.declared.fault.LdifFaultKind.TheVariants.{ColonMissing}
use Rattle.ldif.specs.Attrs.{Attr}
use Rattle.base.specs.Answers.{◌>>=◌}
use Rattle.ldif.specs.Line.{is_colon, form_of, value_at, value_of}
use Rattle.ldif.specs.Forms.{is_no_colon}

module _ (p : ℕ → Bool) (xs : List ℕ) where
  abbrev placed : ℕ → Bool → Option ℕ
  placed n within = cond within (Some n) None

  -- the first byte that memchr finds
  pub position_is : (found : Option ℕ) → IsFirstByte p xs found → found ≡ position p xs
  position_is None h =
      let place : position_or_len p xs ≡ length xs = position_or_len_is p xs (length xs) 0 (omega arith) (λ k lt. false_from_ne_true (p (get_or xs k 0)) (h k (omega arith) lt)) (λ lt. absurd (omega arith)) in
      sym (ap (λ (n : ℕ). placed n (ltb n (length xs))) place ∙ ap (placed (length xs)) (le-ltb (length xs) (length xs) (omega arith)))
  position_is (Some k) h =
      let place : position_or_len p xs ≡ k = position_or_len_is p xs k 0 (omega (arith, h.0.high)) (λ j lt. false_from_ne_true (p (get_or xs j 0)) (h.0.before j (omega arith) lt)) (λ lt. h.1) in
      sym (ap (λ (n : ℕ). placed n (ltb n (length xs))) place ∙ ap (placed k) (lt-ltb k (length xs) h.0.high))

  -- ---- among the first 16 bytes, of which a mask has those that pass

  some_step : (b : Bool) (n m l : ℕ) → 0 < cond b 1 0 + 2 * n → (0 < n → m < l) → cond (not b) (1 + m) 0 < suc l
  some_step true n m l e f = omega arith
  some_step false n m l e f = omega (arith, f (omega arith))

  some_passes : (ys : List ℕ) → 0 < mask_l (map p ys) → prefix_len (λ y. not (p y)) ys < length ys
  some_passes [] e = absurd (omega arith)
  some_passes (y ∷ ys) e = some_step (p y) (mask_l (map p ys)) (prefix_len (λ z. not (p z)) ys) (length ys) e (some_passes ys)

  module _ (found : ℕ) (is : found ≡ mask_l (map p (chunk 0 16 xs))) (room : 0 + 16 ≤ length xs) (some : 0 < found) where
    abbrev at : ℕ
    at = count_trailing_zeros 64 found

    long : length (chunk 0 16 xs) ≡ 16
    long = length-chunk 0 16 xs room

    counted : at ≡ prefix_len (λ y. not (p y)) (chunk 0 16 xs)
    counted = ap (count_trailing_zeros 64) is ∙ trailing_mask_l p 64 (chunk 0 16 xs) (omega (arith, long)) (omega (arith, is, some))

    short : at < 16
    short = omega (arith, counted, long, some_passes (chunk 0 16 xs) (omega (arith, is, some)))

    pub near_within : at < length xs
    near_within = omega (arith, short, room)

    pub near_is : Some at ≡ position p xs
    near_is =
        let place : position_or_len p xs ≡ at = position_or_len_is p xs at 0 (omega (arith, near_within)) (λ k lt. run_in_chunk_fails p xs 0 16 at 0 room counted k (omega arith) (omega (arith, lt))) (λ lt. subst (λ (k : ℕ). p (get_or xs k 0) ≡ true) (zero-add at) (run_in_chunk_stops p xs 0 16 at 0 room counted short)) in
        sym (ap (λ (n : ℕ). placed n (ltb n (length xs))) place ∙ ap (placed at) (lt-ltb at (length xs) near_within))

-- ---- a name, a colon and the rest

colon_place : (name rest : List ℕ) → list_all is_no_colon name ≡ true → position_or_len is_colon (name ++ 58 ∷ rest) ≡ length name
colon_place [] rest h = refl
colon_place (b ∷ bs) rest h =
    let a = and_parts (is_no_colon b) (list_all is_no_colon bs) h in
    ap (λ (t : Bool). cond (not t) (1 + prefix_len (λ x. not (is_colon x)) (bs ++ 58 ∷ rest)) 0) (not-true (eqb b 58) a.0)
    ∙ ap (λ (n : ℕ). 1 + n) (colon_place bs rest a.1) ∙ omega arith

drop_name : (name rest : List ℕ) (c : ℕ) → drop (suc (length name)) (name ++ c ∷ rest) ≡ rest
drop_name [] rest c = refl
drop_name (b ∷ bs) rest c = drop_name bs rest c

abbrev pub said : List ℕ → List ℕ → Result Attr LdifFaultKind
said name value = Ok (record { name = name; value = value })

pub value_is : (name rest : List ℕ) → 0 < length name → list_all is_no_colon name ≡ true → value_of (name ++ 58 ∷ rest) ≡ (form_of rest >>= λ value. said name value)
unfolding value_of
value_is name rest some h =
    let n = position_or_len is_colon (name ++ 58 ∷ rest) in
    let place : n ≡ length name = colon_place name rest h in
    let within : leb (suc (length name)) (length (name ++ 58 ∷ rest)) ≡ true = lt-ltb _ _ (omega (arith, length-append name (58 ∷ rest))) in
    let next : length name + 1 ≡ suc (length name) = omega arith in
    ap (λ (k : ℕ). value_at (name ++ 58 ∷ rest) (cond (leb (suc k) (length (name ++ 58 ∷ rest))) (Some k) None)) place
    ∙ ap (λ (t : Bool). value_at (name ++ 58 ∷ rest) (cond t (Some (length name)) None)) within
    ∙ ap (λ (t : Bool). cond t (Err ColonMissing) (form_of (drop (length name + 1) (name ++ 58 ∷ rest)) >>= λ value. said (take (length name) (name ++ 58 ∷ rest)) value)) (ne_eqb (length name) 0 (λ e. omega arith))
    ∙ ap (λ (x : List ℕ). form_of (drop (length name + 1) (name ++ 58 ∷ rest)) >>= λ value. said x value) (take_at name (58 ∷ rest) (length name) refl)
    ∙ ap (λ (x : List ℕ). form_of x >>= λ value. said name value) (ap (λ (k : ℕ). drop k (name ++ 58 ∷ rest)) next ∙ drop_name name rest 58)

pub front_colons : (xs : List ℕ) (n : ℕ) → ((k : ℕ) → k < n → is_colon (get_or xs k 0) ≡ false) → list_all is_no_colon (take n xs) ≡ true
front_colons [] zero h = refl
front_colons [] (suc n) h = refl
front_colons (x ∷ xs) zero h = refl
front_colons (x ∷ xs) (suc n) h = and_from (is_no_colon x) (list_all is_no_colon (take n xs)) (not_from_false (is_colon x) (h 0 (omega arith))) (front_colons xs n (λ k lt. h (suc k) (omega arith)))
