-- A part copied out of a list, as what a pull gave.
use Rattle.std.proofs.Common.{◌≡◌, ℕ, ◌+◌, ◌-◌, ◌≤◌, true, nat_le, List, [], ◌++◌, length, take, drop, arith, sym, ◌∙◌, ap}
use Rattle.std.proofs.lemmas.List.{take_at, take-append-drop, length-take, length-drop, drop-drop, nil_from_length}
use Rattle.std.proofs.lemmas.Bool.{leb-true, le-leb}

module _ (xs copied tail : List ℕ) (at n : ℕ) (fits : at + n ≤ length xs) (is : copied ≡ take (at + n - at) (drop at xs)) where
  pub front_is : take n (copied ++ tail) ≡ take n (drop at xs)
  front_is =
      let k : at + n - at ≡ n = omega arith in
      let e : copied ≡ take n (drop at xs) = is ∙ ap (λ (m : ℕ). take m (drop at xs)) k in
      let len : length copied ≡ n = omega (arith, ap length e, length-take n (drop at xs), length-drop at xs) in
      take_at copied tail n len ∙ e

  pub front_len : length (take n (copied ++ tail)) ≡ n
  front_len = rw front_is (omega (arith, length-take n (drop at xs), length-drop at xs))

  pub front_cut : drop at xs ≡ take n (copied ++ tail) ++ drop (at + n) xs
  front_cut = rw (front_is, ← drop-drop n at xs) (sym (take-append-drop n (drop at xs)))

  pub front_ended : nat_le (length xs) at ≡ true → (nat_le (length xs) (at + n) ≡ true) × (take n (copied ++ tail) ≡ [])
  front_ended e =
      let past : length xs ≤ at = leb-true _ _ e in
      let len = front_len in
      (le-leb _ _ (omega arith), nil_from_length _ (omega arith))
