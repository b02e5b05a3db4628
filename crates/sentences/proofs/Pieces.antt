-- Texts that are put together of shown ones are shown.
use Rattle.std.proofs.Common.{ap, sym, ◌≢◌, cond, false, ◌≡◌, ℕ, ◌+◌, ◌/◌, ◌%◌, ◌<◌, ◌≤◌, ◌^◌, Bool, true, List, [], ◌∷◌, ◌++◌, ◌&&◌, length, take, drop, refl, arith}
use Rattle.std.specs.List.{list_all}
use Rattle.std.specs.Fmt.{decimal}
use Rattle.std.specs.Char.{encode_utf8}
use lib.Dec.{ltb}
use lib.Utf8.{encode, next}
use Rattle.std.proofs.lemmas.List.{length-append, take-append-drop}
use Rattle.std.proofs.lemmas.List.Folds.{list_all-append}
use Rattle.std.proofs.lemmas.Fmt.{decimal_by_steps}
use Rattle.std.proofs.lemmas.Bool.{and_parts}
use Rattle.std.proofs.lemmas.Bool.Decides.{nat_tests}
use Rattle.sentences.specs.Sentence.{is_shown, is_line, IsSentence}

pub shown_both : (xs ys : List ℕ) → list_all is_shown (xs ++ ys) ≡ (list_all is_shown xs && list_all is_shown ys)
shown_both xs ys = list_all-append is_shown xs ys

shown_digit : (n : ℕ) → n < 10 → is_shown (48 + n) ≡ true
shown_digit n low = grind (arith, nat_tests)

shown_last : (n : ℕ) (ds : List ℕ) → list_all is_shown ds ≡ true → list_all is_shown (ds ++ ((48 + n % 10) ∷ [])) ≡ true
shown_last n ds front =
    let below : n % 10 < 10 = omega arith in
    let digit : is_shown (48 + n % 10) ≡ true = shown_digit (n % 10) below in
    rw (shown_both ds ((48 + n % 10) ∷ []), front, digit) refl

pub shown_decimal : (n : ℕ) → n < 2 ^ 64 → list_all is_shown (decimal n) ≡ true
shown_decimal n fits =
    decimal_by_steps (λ k ds. list_all is_shown ds ≡ true)
    (λ k low. let digit = shown_digit k low in rw digit refl)
    (λ k ds large front. shown_last k ds front) n fits

shown_printed : (b : ℕ) → 32 ≤ b → b ≢ 127 → is_shown b ≡ true
shown_printed b printed no_delete = grind (arith, nat_tests)

shown_high : (b : ℕ) → 128 ≤ b → is_shown b ≡ true
shown_high b high = grind (arith, nat_tests)

shown_next : (c : ℕ) → is_shown (next c) ≡ true
shown_next c = shown_high (128 + c % 64) (omega arith)

-- whichever of four texts it is, where each is shown
shown_whichever : (a b c : Bool) (ws xs ys zs : List ℕ) → list_all is_shown ws ≡ true → list_all is_shown xs ≡ true
    → list_all is_shown ys ≡ true → list_all is_shown zs ≡ true → list_all is_shown (cond a ws (cond b xs (cond c ys zs))) ≡ true
shown_whichever true b c ws xs ys zs p q r s = p
shown_whichever false true c ws xs ys zs p q r s = q
shown_whichever false false true ws xs ys zs p q r s = r
shown_whichever false false false ws xs ys zs p q r s = s

both : (a b : Bool) → a ≡ true → b ≡ true → (a && b) ≡ true
both a b p q = rw (p, q) refl

pub shown_char : (c : ℕ) → 32 ≤ c → c ≢ 127 → list_all is_shown (encode_utf8 c) ≡ true
unfolding encode
shown_char c printed no_delete = shown_whichever (ltb c 128) (ltb c 2048) (ltb c 65536) (c ∷ []) ((192 + c / 64) ∷ next c ∷ [])
    ((224 + c / 4096) ∷ next (c / 64) ∷ next c ∷ []) ((240 + c / 262144) ∷ next (c / 4096) ∷ next (c / 64) ∷ next c ∷ [])
    (both _ _ (shown_printed c printed no_delete) refl)
    (both _ _ (shown_high (192 + c / 64) (omega arith)) (both _ _ (shown_next c) refl))
    (both _ _ (shown_high (224 + c / 4096) (omega arith)) (both _ _ (shown_next (c / 64)) (both _ _ (shown_next c) refl)))
    (both _ _ (shown_high (240 + c / 262144) (omega arith))
    (both _ _ (shown_next (c / 4096)) (both _ _ (shown_next (c / 64)) (both _ _ (shown_next c) refl))))

-- shown words and a line feed are a line
line_of : (words : List ℕ) → is_line (words ++ (10 ∷ [])) ≡ list_all is_shown words
line_of [] = refl
line_of (x ∷ []) = refl
line_of (x ∷ y ∷ rest) = ap (λ b. is_shown x && b) (line_of (y ∷ rest))

pub line_is : (words bytes : List ℕ) → list_all is_shown words ≡ true → bytes ≡ words ++ (10 ∷ []) → is_line bytes ≡ true
line_is words bytes shown spelled = rw (spelled, line_of words) shown

pub sentence_is : (words bytes : List ℕ) → list_all is_shown words ≡ true → length words ≤ 397
    → bytes ≡ 32 ∷ 32 ∷ (words ++ (10 ∷ [])) → IsSentence bytes
sentence_is words bytes shown short spelled =
    let len : length (words ++ (10 ∷ [])) ≡ length words + 1 = length-append words (10 ∷ []) in
    record {
      line = rw (spelled, line_of words) shown;
      short = rw (spelled, len) (omega (arith, short));
    }

-- the front of shown words is shown
pub shown_front : (n : ℕ) (xs : List ℕ) → list_all is_shown xs ≡ true → list_all is_shown (take n xs) ≡ true
shown_front n xs shown =
    let parted : (list_all is_shown (take n xs) && list_all is_shown (drop n xs)) ≡ true =
    rw (sym (shown_both (take n xs) (drop n xs)), take-append-drop n xs) shown in
    (and_parts _ _ parted).0
