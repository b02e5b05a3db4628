-- Where the lines of two texts first differ.
use Rattle.std.proofs.Common.{◌≡◌, ℕ, Bool, false, List, [], ◌∷◌, ◌==◌, nat_lt, length, map, slice_index_or, if◌then◌else◌, Bor, refl, ap, arith}
use Rattle.std.specs.Str.{bytes_eq}
use Rattle.checks.specs.IndexDifferences.{first_is_less, is_before, slot_behind, slot_and_key, first_line, first_difference}

abbrev pub texts : List (Bor (List ℕ)) → List (List ℕ)
texts ls = map (λ l. l.now) ls

-- the difference is on the first line of what is left
abbrev pub IsHere : List ℕ → List (Bor (List ℕ)) → List (Bor (List ℕ)) → Type 0
IsHere slot ks ls = first_difference slot (texts ks) (texts ls) ≡ slot_and_key slot (first_line (texts ks)) (first_line (texts ls))

pub one_ended : (slot : List ℕ) (ks ls : List (Bor (List ℕ))) → length ks ≡ 0 → IsHere slot ks ls
unfolding first_difference
one_ended slot [] ls none = refl
one_ended slot (k ∷ ks) ls none = absurd (omega (arith, none))

pub other_ended : (slot : List ℕ) (ks ls : List (Bor (List ℕ))) → length ls ≡ 0 → IsHere slot ks ls
unfolding first_difference
other_ended slot [] ls none = refl
other_ended slot (k ∷ ks) [] none = refl
other_ended slot (k ∷ ks) (l ∷ ls) none = absurd (omega (arith, none))

pub they_differ : (slot : List ℕ) (ks ls : List (Bor (List ℕ))) (d e : Bor (List ℕ)) → bytes_eq (slice_index_or ks 0 d).now (slice_index_or ls 0 e).now ≡ false → IsHere slot ks ls
unfolding first_difference
they_differ slot [] ls d e unlike = refl
they_differ slot (k ∷ ks) [] d e unlike = refl
they_differ slot (k ∷ ks) (l ∷ ls) d e unlike = ap (λ (b : Bool). if b then first_difference (slot_behind slot k.now) (texts ks) (texts ls) else slot_and_key slot k.now l.now) unlike

-- ---- the order of keys

pub first_ended : (xs ys : List ℕ) → length xs ≡ 0 → is_before xs ys ≡ first_is_less xs ys
unfolding is_before
first_ended [] ys none = refl
first_ended (x ∷ xs) ys none = absurd (omega (arith, none))

pub second_ended : (xs ys : List ℕ) → length ys ≡ 0 → is_before xs ys ≡ first_is_less xs ys
unfolding is_before
second_ended [] ys none = refl
second_ended (x ∷ xs) [] none = refl
second_ended (x ∷ xs) (y ∷ ys) none = absurd (omega (arith, none))

pub bytes_differ : (xs ys : List ℕ) (d e : ℕ) → (slice_index_or xs 0 d == slice_index_or ys 0 e) ≡ false → is_before xs ys ≡ first_is_less xs ys
unfolding is_before
bytes_differ [] ys d e unlike = refl
bytes_differ (x ∷ xs) [] d e unlike = refl
bytes_differ (x ∷ xs) (y ∷ ys) d e unlike = ap (λ (b : Bool). if b then is_before xs ys else nat_lt x y) unlike
