-- Keys are in the order of the texts that write them.
use Rattle.std.proofs.Common.{◌≡◌, ℕ, zero, suc, ◌+◌, ◌/◌, ◌%◌, ◌<◌, ◌≤◌, ◌==◌, ◌&&◌, Bool, true, false, cond, nat_lt, List, [], ◌∷◌, slice_index, inl, inr, refl, sym, ap, ◌∙◌, arith}
use Rattle.std.proofs.lemmas.Bool.{eqb-true, and_parts, cases_lt}
use Rattle.std.proofs.lemmas.Bool.Decides.{nat_tests}
use Rattle.std.specs.declared.cmp.Ordering.{Ordering}
use Rattle.std.specs.declared.cmp.Ordering.TheVariants.{Less, Equal, Greater}
use Rattle.std.specs.Ordering.{nat_cmp, ordering_then, is_lt}
use Rattle.std.specs.Cmp.{nat_cmp_is}
use Rattle.std.specs.Cmp.Lexicographic.{slice_cmp}
use Rattle.std.specs.List.{AllByRecursion}
use Rattle.base.specs.Ascii.{hyphen}
use Rattle.hex.specs.Hex.{lower_digits, encode_with, encode_lower}
use Rattle.index_text.specs.IndexTexts.{key_text}
use Rattle.stored_index.specs.Rows.{IsByte}

-- numbers compare as others do that rise with them
as_others : (a b c d : ℕ) → (a < b → c < d) → (a ≡ b → c ≡ d) → (b < a → d < c) → nat_cmp c d ≡ nat_cmp a b
as_others a b c d less same more =
    elim (cases_lt a b) [
      | inl lt ↦ sym (nat_cmp_is c d Less (less lt)) ∙ nat_cmp_is a b Less lt
      | inr ge ↦
          elim (cases_lt b a) [
            | inl gt ↦ sym (nat_cmp_is c d Greater (more gt)) ∙ nat_cmp_is a b Greater gt
            | inr le ↦
                let e : a ≡ b = omega arith in
                sym (nat_cmp_is c d Equal (same e)) ∙ nat_cmp_is a b Equal e
          ]
    ]

-- ---- digits, by computing their table

abbrev byte_of : ℕ → ℕ
byte_of d = cond (nat_lt d 10) (48 + d) (87 + d)

abbrev all_stand : ℕ → Bool
all_stand zero = true
all_stand (suc n) = (slice_index lower_digits n == byte_of n) && all_stand n

stands_at : (n k : ℕ) → all_stand n ≡ true → k < n → slice_index lower_digits k ≡ byte_of k
stands_at zero k h lt = absurd (omega arith)
stands_at (suc n) k h lt =
    let parts = and_parts (slice_index lower_digits n == byte_of n) (all_stand n) h in
    elim (cases_lt k n) [
      | inl below ↦ stands_at n k parts.1 below
      | inr top ↦
          let e : k ≡ n = omega arith in
          rw e (eqb-true (slice_index lower_digits n) (byte_of n) parts.0)
    ]

low_digit : (d : ℕ) → d < 10 → slice_index lower_digits d ≡ 48 + d
low_digit d lt =
    let t : nat_lt d 10 ≡ true = grind (arith, nat_tests) in
    stands_at 16 d refl (omega arith) ∙ ap (λ (b : Bool). cond b (48 + d) (87 + d)) t

high_digit : (d : ℕ) → 10 ≤ d → d < 16 → slice_index lower_digits d ≡ 87 + d
high_digit d le lt =
    let t : nat_lt d 10 ≡ false = grind (arith, nat_tests) in
    stands_at 16 d refl lt ∙ ap (λ (b : Bool). cond b (48 + d) (87 + d)) t

digit_rises : (x y : ℕ) → x < y → y < 16 → slice_index lower_digits x < slice_index lower_digits y
digit_rises x y lt small =
    elim (cases_lt y 10) [
      | inl low ↦ omega (arith, low_digit x (omega arith), low_digit y low)
      | inr high ↦
          elim (cases_lt x 10) [
            | inl low ↦ omega (arith, low_digit x low, high_digit y high small)
            | inr both ↦ omega (arith, high_digit x both (omega arith), high_digit y high small)
          ]
    ]

above_hyphen : (d : ℕ) → d < 16 → hyphen < slice_index lower_digits d
above_hyphen d lt =
    elim (cases_lt d 10) [
      | inl low ↦ omega (arith, low_digit d low)
      | inr high ↦ omega (arith, high_digit d high lt)
    ]

digit_order : (x y : ℕ) → x < 16 → y < 16 → nat_cmp (slice_index lower_digits x) (slice_index lower_digits y) ≡ nat_cmp x y
digit_order x y lt small =
    as_others x y (slice_index lower_digits x) (slice_index lower_digits y) (λ h. digit_rises x y h small) (λ e. ap (slice_index lower_digits) e) (λ h. digit_rises y x h lt)

-- ---- bytes

-- by the digit in front, and then by the other
pair_order : (x y : ℕ) (o : Ordering) → ordering_then (nat_cmp (x / 16) (y / 16)) (ordering_then (nat_cmp (x % 16) (y % 16)) o) ≡ ordering_then (nat_cmp x y) o
pair_order x y o =
    let rest = ordering_then (nat_cmp (x % 16) (y % 16)) o in
    elim (cases_lt (x / 16) (y / 16)) [
      | inl lt ↦
          let less : x < y = omega arith in
          ap (λ (c : Ordering). ordering_then c rest) (sym (nat_cmp_is (x / 16) (y / 16) Less lt)) ∙ ap (λ (c : Ordering). ordering_then c o) (nat_cmp_is x y Less less)
      | inr ge ↦
          elim (cases_lt (y / 16) (x / 16)) [
            | inl gt ↦
                let more : y < x = omega arith in
                ap (λ (c : Ordering). ordering_then c rest) (sym (nat_cmp_is (x / 16) (y / 16) Greater gt)) ∙ ap (λ (c : Ordering). ordering_then c o) (nat_cmp_is x y Greater more)
            | inr le ↦
                let e : x / 16 ≡ y / 16 = omega arith in
                ap (λ (c : Ordering). ordering_then c rest) (sym (nat_cmp_is (x / 16) (y / 16) Equal e))
                ∙ ap (λ (c : Ordering). ordering_then c o) (as_others x y (x % 16) (y % 16) (λ h. omega arith) (λ h. omega arith) (λ h. omega arith))
          ]
    ]

texts_compare : (a b : List ℕ) → AllByRecursion IsByte a → AllByRecursion IsByte b → slice_cmp nat_cmp (encode_lower a) (encode_lower b) ≡ slice_cmp nat_cmp a b
unfolding encode_with
texts_compare [] [] all some = refl
texts_compare [] (y ∷ ys) all some = refl
texts_compare (x ∷ xs) [] all some = refl
texts_compare (x ∷ xs) (y ∷ ys) all some =
    let small : x < 256 = all.0 in
    let little : y < 256 = some.0 in
    (λ i. ordering_then (digit_order (x / 16) (y / 16) (omega arith) (omega arith) i) (ordering_then (digit_order (x % 16) (y % 16) (omega arith) (omega arith) i) (texts_compare xs ys all.1 some.1 i)))
    ∙ pair_order x y (slice_cmp nat_cmp xs ys)

-- ---- keys

pub key_texts_compare : (a b : List ℕ) → AllByRecursion IsByte a → AllByRecursion IsByte b → slice_cmp nat_cmp (key_text a) (key_text b) ≡ slice_cmp nat_cmp a b
unfolding encode_with
key_texts_compare [] [] all some = refl
key_texts_compare [] (y ∷ ys) all some =
    let small : y < 256 = some.0 in
    let high = slice_index lower_digits (y / 16) in
    ap (λ (c : Ordering). ordering_then c (slice_cmp nat_cmp [] (slice_index lower_digits (y % 16) ∷ encode_lower ys))) (sym (nat_cmp_is hyphen high Less (above_hyphen (y / 16) (omega arith))))
key_texts_compare (x ∷ xs) [] all some =
    let small : x < 256 = all.0 in
    let high = slice_index lower_digits (x / 16) in
    ap (λ (c : Ordering). ordering_then c (slice_cmp nat_cmp (slice_index lower_digits (x % 16) ∷ encode_lower xs) [])) (sym (nat_cmp_is high hyphen Greater (above_hyphen (x / 16) (omega arith))))
key_texts_compare (x ∷ xs) (y ∷ ys) all some = texts_compare (x ∷ xs) (y ∷ ys) all some

-- so keys may be compared as they are written
pub key_texts_order : (a b : List ℕ) → AllByRecursion IsByte a → AllByRecursion IsByte b → is_lt (slice_cmp nat_cmp (key_text a) (key_text b)) ≡ is_lt (slice_cmp nat_cmp a b)
key_texts_order a b all some = ap is_lt (key_texts_compare a b all some)
