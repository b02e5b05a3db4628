-- The point that parts a list by a test.
use Rattle.std.proofs.Common.{◌≡◌, ℕ, zero, suc, ◌≤◌, ◌<◌, Bool, true, false, cond, List, [], ◌∷◌, length, take, drop, get_or, refl, sym, ◌∙◌, ap, arith}
use Rattle.std.specs.Prelude.{filter}
use Rattle.std.specs.List.{AllByRecursion}
use Rattle.std.specs.List.Sorted.{IsPartitionPoint, IsPartitionedBy}

module _ {X : Type 0} (p : X → Bool) where
  -- behind an element that fails the test all fail it
  abbrev pub FallsOff : List X → Type 0
  FallsOff [] = Unit {0}
  FallsOff (x ∷ xs) = (p x ≡ false → AllByRecursion (λ y. p y ≡ false) xs) × FallsOff xs

  failing_at : (xs : List X) → AllByRecursion (λ y. p y ≡ false) xs → (k : ℕ) (d : X) → k < length xs → p (get_or xs k d) ≡ false
  failing_at [] all k d lt = absurd (omega (arith, lt))
  failing_at (x ∷ xs) all zero d lt = all.0
  failing_at (x ∷ xs) all (suc k) d lt = failing_at xs all.1 k d (omega (arith, lt))

  pub parted : (xs : List X) → FallsOff xs → IsPartitionedBy p xs
  parted [] h i j d le lt is = absurd (omega (arith, lt))
  parted (x ∷ xs) h zero zero d le lt is = is
  parted (x ∷ xs) h zero (suc j) d le lt is = by (p x) refl
    where
      by : (b : Bool) → p x ≡ b → p x ≡ true
      by true e = e
      by false e = let fails = failing_at xs (h.0 e) j d (omega (arith, lt)) in let bad : true ≡ false = sym is ∙ fails in cc
  parted (x ∷ xs) h (suc i) zero d le lt is = absurd (omega (arith, le))
  parted (x ∷ xs) h (suc i) (suc j) d le lt is = parted xs h.1 i j d (omega (arith, le)) (omega (arith, lt)) is

  -- where all fail the test, none is kept
  none_kept : (xs : List X) → AllByRecursion (λ y. p y ≡ false) xs → filter p xs ≡ []
  none_kept [] all = refl
  none_kept (x ∷ xs) all = ap (λ b. cond b (x ∷ filter p xs) (filter p xs)) all.0 ∙ none_kept xs all.1

  failing_from : (xs : List X) → ((k : ℕ) (d : X) → k < length xs → p (get_or xs k d) ≡ false) → AllByRecursion (λ y. p y ≡ false) xs
  failing_from [] each = tt
  failing_from (x ∷ xs) each = (each 0 x (omega arith), failing_from xs (λ k d lt. each (suc k) d (omega (arith, lt))))

  module _ (xs : List X) (i : ℕ) where
    abbrev pub PartsAt : Type 0
    PartsAt = IsPartitionPoint (λ y. p y ≡ true) (λ y. p y ≡ false) xs i

  further : (x : X) (xs : List X) (i : ℕ) → PartsAt (x ∷ xs) (suc i) → PartsAt xs i
  further x xs i parts = (λ k d le lt. parts.0 (suc k) d (omega arith) (omega (arith, lt)), λ k d le lt. parts.1 (suc k) d (omega (arith, le)) (omega (arith, lt)))

  -- those before the point pass the test, and those behind it fail it
  pub taken : (xs : List X) (i : ℕ) → i ≤ length xs → PartsAt xs i → take i xs ≡ filter p xs
  taken [] zero le parts = refl
  taken [] (suc i) le parts = absurd (omega (arith, le))
  taken (x ∷ xs) zero le parts = sym (none_kept (x ∷ xs) (failing_from (x ∷ xs) (λ k d lt. parts.1 k d (omega arith) lt)))
  taken (x ∷ xs) (suc i) le parts =
      ap (λ (ys : List X). x ∷ ys) (taken xs i (omega (arith, le)) (further x xs i parts))
      ∙ sym (ap (λ b. cond b (x ∷ filter p xs) (filter p xs)) (parts.0 0 x (omega arith) (omega arith)))

  pub behind : (xs : List X) (i : ℕ) → i ≤ length xs → PartsAt xs i → AllByRecursion (λ y. p y ≡ false) (drop i xs)
  behind [] zero le parts = tt
  behind [] (suc i) le parts = tt
  behind (x ∷ xs) zero le parts = failing_from (x ∷ xs) (λ k d lt. parts.1 k d (omega arith) lt)
  behind (x ∷ xs) (suc i) le parts = behind xs i (omega (arith, le)) (further x xs i parts)

  -- what only elements behind the point pass
  pub kept_behind : (q : X → Bool) → ((x : X) → p x ≡ true → q x ≡ false) → (xs : List X) (i : ℕ) → i ≤ length xs → PartsAt xs i → filter q (drop i xs) ≡ filter q xs
  kept_behind q apart [] zero le parts = refl
  kept_behind q apart [] (suc i) le parts = refl
  kept_behind q apart (x ∷ xs) zero le parts = refl
  kept_behind q apart (x ∷ xs) (suc i) le parts =
      kept_behind q apart xs i (omega (arith, le)) (further x xs i parts)
      ∙ sym (ap (λ b. cond b (x ∷ filter q xs) (filter q xs)) (apart x (parts.0 0 x (omega arith) (omega arith))))
