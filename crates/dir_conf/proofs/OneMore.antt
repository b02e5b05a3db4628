-- What holds of a list, and of one element more at its end.
use Rattle.std.proofs.Common.{◌≡◌, ℕ, ◌+◌, ◌<◌, ◌≤◌, Bool, true, false, List, [], ◌∷◌, ◌++◌, length, get_or, refl, sym, subst, arith, length-append}
use Rattle.std.specs.Prelude.{nat_lt}
use Rattle.std.specs.List.{list_any, AllByRecursion, IsDistinct}
use Rattle.std.proofs.lemmas.Bool.{or_parts, ltb-true}
use Rattle.std.proofs.lemmas.Bool.Decides.{nat_tests}
use Rattle.std.proofs.Math.Seq.{get_or-append_seam}
use Rattle.std.proofs.Math.ListN.{get_or-append}

pub all_put : {X : Type 0} (P : X → Type 0) (xs : List X) (x : X) → AllByRecursion P xs → P x → AllByRecursion P (xs ++ x ∷ [])
all_put P [] x h k = (k, tt)
all_put P (y ∷ ys) x h k = (h.0, all_put P ys x h.1 k)

pub distinct_put : {X : Type 0} (E : X → X → Bool) (xs : List X) (x : X) → IsDistinct E xs → list_any (λ y. E y x) xs ≡ false → IsDistinct E (xs ++ x ∷ [])
unfolding IsDistinct
distinct_put E [] x h k = (tt, tt)
distinct_put E (y ∷ ys) x h k =
    let o = or_parts (E y x) (list_any (λ z. E z x) ys) k in
    (all_put (λ z. E y z ≡ false) ys x h.0 o.0, distinct_put E ys x h.1 o.1)

pub not_below : (i n : ℕ) → nat_lt i n ≡ false → n ≤ i
not_below i n h = grind (arith, nat_tests)

-- what holds of each at its place
pub at_more : {X : Type 0} (P : ℕ → X → Type 0) (xs : List X) (x : X) (d : X) → ((i : ℕ) → i < length xs → P i (get_or xs i d)) → P (length xs) x → (i : ℕ) → i < length (xs ++ x ∷ []) → P i (get_or (xs ++ x ∷ []) i d)
at_more {X} P xs x d h k i lt = by (nat_lt i (length xs)) refl
  where
    long : length (xs ++ x ∷ []) ≡ length xs + 1
    long = length-append xs (x ∷ [])

    by : (b : Bool) → nat_lt i (length xs) ≡ b → P i (get_or (xs ++ x ∷ []) i d)
    by true is =
        let below = ltb-true i (length xs) is in
        subst (λ (y : X). P i y) (sym (get_or-append xs (x ∷ []) d i below)) (h i below)
    by false is =
        let last : length xs ≡ i = omega (arith, lt, long, not_below i (length xs) is) in
        subst (λ j. P j (get_or (xs ++ x ∷ []) j d)) last (subst (λ (y : X). P (length xs) y) (sym (get_or-append_seam xs x [] d)) k)
