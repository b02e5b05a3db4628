-- Texts in which each character stands for itself.
use Rattle.std.proofs.Common.{◌≡◌, ℕ, zero, suc, ◌-◌, ◌<◌, ◌≤◌, Bool, true, false, List, [], ◌∷◌, ◌++◌, refl, length, get_or, map, nat_lt, arith}
use Rattle.std.specs.Char.{encode_utf8}
use Rattle.std.specs.List.{list_all}
use Rattle.std.specs.Str.{chars, is_utf8, IsUtf8}
use Rattle.std.proofs.lemmas.Bool.{and_parts}
use Rattle.std.proofs.lemmas.Bool.Decides.{nat_tests}
use Rattle.std.proofs.lemmas.Str.{encode_ascii, chars-IsAscii, is_utf8-from_IsUtf8, IsUtf8-from_is_utf8}
use Rattle.sentences.specs.Cuts.{fitting, front, end_of}
use Rattle.sentences.specs.Sentence.{is_shown}
use Rattle.sentences.specs.Shown.{is_plain, is_escaped, shown_char, shown_byte, shown}
use Rattle.sentences.specs.declared.shown.Form.{Form}
use Rattle.sentences.specs.declared.shown.Form.TheVariants as forms

pub plain_bounds : (form : Form) (c : ℕ) → is_plain form c ≡ true → (32 ≤ c) × (c < 127)
plain_bounds forms.Quoted c plain = grind (arith, nat_tests)
plain_bounds forms.Bare c plain = grind (arith, nat_tests)

ascii_at : (form : Form) (xs : List ℕ) (i : ℕ) → list_all (is_plain form) xs ≡ true → get_or xs i 0 < 128
ascii_at form [] i plain = omega arith
ascii_at form (x ∷ xs) zero plain = let b = plain_bounds form x (and_parts _ _ plain).0 in omega arith
ascii_at form (x ∷ xs) (suc i) plain = ascii_at form xs i (and_parts _ _ plain).1

plain_char : (form : Form) (c : ℕ) → is_plain form c ≡ true → shown_char form c ≡ c ∷ []
plain_char form c plain =
    let b = plain_bounds form c plain in
    let e : encode_utf8 c ≡ c ∷ [] = encode_ascii c (omega arith) in
    let w : is_escaped form c ≡ false = rw plain (grind (arith, nat_tests)) in
    rw (w, e) refl

fitting_chars : (form : Form) (room : ℕ) (xs end : List ℕ) → length xs ≤ room → list_all (is_plain form) xs ≡ true
    → fitting room (map (shown_char form) xs) end ≡ xs ++ end
fitting_chars form room [] end short plain = refl
fitting_chars form room (x ∷ xs) end short plain =
    let p : (is_plain form x ≡ true) × (list_all (is_plain form) xs ≡ true) = and_parts _ _ plain in
    let t : nat_lt room 1 ≡ false = grind (arith, nat_tests) in
    let rest = fitting_chars form (room - 1) xs end (omega (arith, short)) p.1 in
    rw (plain_char form x p.0, t, rest) refl

-- such a text is shown as it is
pub fitting_plain : (form : Form) (most : ℕ) (text end : List ℕ) → length text ≤ most → list_all (is_plain form) text ≡ true
    → fitting most (map (shown_char form) (chars text)) end ≡ text ++ end
fitting_plain form most text end short plain =
    rw (chars-IsAscii text (λ i. ascii_at form text i plain)) (fitting_chars form most text end short plain)

pub plain_shown : (form : Form) (xs : List ℕ) → list_all (is_plain form) xs ≡ true → list_all is_shown xs ≡ true
plain_shown form [] plain = refl
plain_shown form (x ∷ xs) plain =
    let p = and_parts _ _ plain in
    let b = plain_bounds form x p.0 in
    let s : is_shown x ≡ true = grind (arith, nat_tests) in
    rw (s, plain_shown form xs p.1) refl

-- text is shown by its characters, other bytes one by one
pub shown_text : (form : Form) (most : ℕ) (bytes cut text end : List ℕ) → cut ≡ front most bytes → text ≡ cut → IsUtf8 cut → end ≡ end_of most bytes
    → fitting most (map (shown_char form) (chars text)) end ≡ shown form most bytes
unfolding shown
shown_text form most bytes cut text end is same utf8 behind = rw (same, behind, ← is, is_utf8-from_IsUtf8 cut utf8) refl

isnt : (b : Bool) → (b ≡ true → ⊥) → b ≡ false
isnt true other = absurd (other refl)
isnt false other = refl

pub shown_bytes : (form : Form) (most : ℕ) (bytes cut end : List ℕ) → cut ≡ front most bytes → ¬ (IsUtf8 cut) → end ≡ end_of most bytes
    → fitting most (map (shown_byte form) cut) end ≡ shown form most bytes
unfolding shown
shown_bytes form most bytes cut end is other behind =
    rw (behind, ← is, isnt (is_utf8 cut) (λ t. other (IsUtf8-from_is_utf8 cut t))) refl
