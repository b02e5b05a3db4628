-- The bytes of UTF-8.
use Rattle.std.proofs.Common.{inl, inr, get_or, suc, ◌⊎◌, sym, ◌≡◌, ℕ, ◌+◌, ◌<◌, ◌/◌, ◌%◌, Bool, true, false, cond, ◌&&◌, not, List, [], ◌∷◌, length, refl, ap, subst, ◌∙◌, arith}
use Rattle.std.specs.Prelude.{nat_lt, ◌==◌}
use Rattle.std.specs.List.{list_all}
use Rattle.std.specs.Str.{IsUtf8, is_utf8}
use Rattle.std.proofs.lemmas.Str.{IsUtf8-from_is_utf8}
use Rattle.std.proofs.lemmas.Bool.{and_parts, lt-ltb, ltb-true, cases_eq, eq-eqb, ne_eqb}
use Rattle.std.proofs.lemmas.List.Folds.{list_all-append}
use lib.Utf8.{scalar, scalars, encode, encodes, scalar_cases}
use Rattle.matching.specs.declared.syntax.Syntax.{Syntax}
use Rattle.matching.specs.declared.syntax.Syntax.TheVariants as syntaxes
use Rattle.matching.specs.Syntaxes.{is_byte, is_ascii, is_digit_or_space, is_oid_byte, is_valid}
use Rattle.matching.specs.Integers.{after_minus, are_plain_digits, fits, is_minus, magnitude, is_integer}
use Rattle.matching.proofs.Digits.{same_test}
use Rattle.std.specs.Char.{is_ascii_digit}
use Rattle.std.specs.Str.{all_ascii_digits, bytes_eq}
use Rattle.std.specs.Prelude.{◌||◌, codes, slice_index}
use Rattle.std.proofs.lemmas.Bool.Decides.{nat_tests}
use Rattle.std.proofs.lemmas.Slice.Eq.{bytes_eq-Decides}

both : (a b : Bool) → a ≡ true → b ≡ true → (a && b) ≡ true
both a b h k = ap (λ x. x && b) h ∙ k

byte_is : (b : ℕ) → b < 256 → is_byte b ≡ true
byte_is b h = lt-ltb b 256 h

chosen : (P : List ℕ → Type 0) (b : Bool) (xs ys : List ℕ) → (b ≡ true → P xs) → (b ≡ false → P ys) → P (cond b xs ys)
chosen P true xs ys h k = h refl
chosen P false xs ys h k = k refl

abbrev AreBytes : List ℕ → Type 0
AreBytes bs = list_all is_byte bs ≡ true

more : (b : ℕ) (bs : List ℕ) → b < 256 → AreBytes bs → AreBytes (b ∷ bs)
more b bs h k = both (is_byte b) (list_all is_byte bs) (lt-ltb b 256 h) k

next_byte : (c : ℕ) → 128 + c % 64 < 256
next_byte c = omega arith

high : (c : ℕ) → scalar c ≡ true → c < 1114112
high c h = elim (scalar_cases c h) [ inl k ↦ omega arith | inr k ↦ k.1 ]

encoded : (c : ℕ) → scalar c ≡ true → AreBytes (encode c)
unfolding encode
encoded c h =
    let top = high c h in
    chosen AreBytes (nat_lt c 128) _ _
    (λ small. let lt = ltb-true c 128 small in more c [] (omega arith) refl)
    (λ _. chosen AreBytes (nat_lt c 2048) _ _
    (λ small. let lt = ltb-true c 2048 small in more (192 + c / 64) ((128 + c % 64) ∷ []) (omega arith) (more (128 + c % 64) [] (next_byte c) refl))
    (λ _. chosen AreBytes (nat_lt c 65536) _ _
    (λ small. let lt = ltb-true c 65536 small in more (224 + c / 4096) ((128 + c / 64 % 64) ∷ (128 + c % 64) ∷ []) (omega arith) (more (128 + c / 64 % 64) ((128 + c % 64) ∷ []) (next_byte (c / 64)) (more (128 + c % 64) [] (next_byte c) refl)))
    (λ _. more (240 + c / 262144) ((128 + c / 4096 % 64) ∷ (128 + c / 64 % 64) ∷ (128 + c % 64) ∷ []) (omega arith) (more (128 + c / 4096 % 64) ((128 + c / 64 % 64) ∷ (128 + c % 64) ∷ []) (next_byte (c / 4096)) (more (128 + c / 64 % 64) ((128 + c % 64) ∷ []) (next_byte (c / 64)) (more (128 + c % 64) [] (next_byte c) refl))))))

all_encoded : (cs : List ℕ) → scalars cs ≡ true → AreBytes (encodes cs)
all_encoded [] h = refl
all_encoded (c ∷ cs) h =
    let k = and_parts (scalar c) (scalars cs) h in
    list_all-append is_byte (encode c) (encodes cs) ∙ both (list_all is_byte (encode c)) (list_all is_byte (encodes cs)) (encoded c k.0) (all_encoded cs k.1)

text_bytes : (bs : List ℕ) → IsUtf8 bs → AreBytes bs
text_bytes bs u = subst AreBytes u.1.1 (all_encoded u.0 u.1.0)

weaker : (p : ℕ → Bool) (bs : List ℕ) → ((b : ℕ) → p b ≡ true → is_byte b ≡ true) → list_all p bs ≡ true → AreBytes bs
weaker p [] each h = refl
weaker p (b ∷ bs) each h =
    let k = and_parts (p b) (list_all p bs) h in
    both (is_byte b) (list_all is_byte bs) (each b k.0) (weaker p bs each k.1)

ascii_byte : (b : ℕ) → is_ascii b ≡ true → is_byte b ≡ true
ascii_byte b h = grind (arith, nat_tests)

digit_byte : (b : ℕ) → is_ascii_digit b ≡ true → is_byte b ≡ true
digit_byte b h = grind (arith, nat_tests)

digit_or_space_byte : (b : ℕ) → is_digit_or_space b ≡ true → is_byte b ≡ true
digit_or_space_byte b h = grind (arith, nat_tests)

oid_byte : (b : ℕ) → is_oid_byte b ≡ true → is_byte b ≡ true
oid_byte b h = ascii_byte b (and_parts (is_ascii b) (not (b == 32)) h).0

one_of : (a b : Bool) → a || b ≡ true → (a ≡ true) ⊎ (b ≡ true)
one_of true b h = inl refl
one_of false b h = inr h

equal_bytes : (bs known : List ℕ) → bytes_eq bs known ≡ true → AreBytes known → AreBytes bs
equal_bytes bs known h k = subst AreBytes (sym ((bytes_eq-Decides bs known).0 h)) k

chosen_minus : (b : ℕ) (bs : List ℕ) → AreBytes (cond (b == 45) bs (b ∷ bs)) → AreBytes (b ∷ bs)
chosen_minus b bs h = elim (cases_eq b 45) [
  | inl same ↦ both (is_byte b) (list_all is_byte bs) (ap is_byte same) (subst AreBytes (ap (λ (t : Bool). cond t bs (b ∷ bs)) (eq-eqb b 45 same)) h)
  | inr apart ↦ subst AreBytes (ap (λ (t : Bool). cond t bs (b ∷ bs)) (ne_eqb b 45 apart)) h
]

minus_and : (bs : List ℕ) → AreBytes (after_minus bs) → AreBytes bs
minus_and [] h = refl
minus_and (b ∷ bs) h = chosen_minus b bs h

integer_bytes : (bs : List ℕ) → is_integer bs ≡ true → AreBytes bs
integer_bytes bs h =
    let plain = (and_parts (are_plain_digits (after_minus bs)) (fits (is_minus bs) (magnitude bs)) h).0 in
    let some = (and_parts (all_ascii_digits (after_minus bs) && nat_lt 0 (length (after_minus bs))) (length (after_minus bs) == 1 || not (slice_index (after_minus bs) 0 == 48)) plain).0 in
    let digits = (and_parts (all_ascii_digits (after_minus bs)) (nat_lt 0 (length (after_minus bs))) some).0 in
    minus_and bs (weaker is_ascii_digit (after_minus bs) digit_byte (same_test (after_minus bs) ∙ digits))

pub valid_bytes : (s : Syntax) (bs : List ℕ) → is_valid s bs ≡ true → AreBytes bs
unfolding is_valid
valid_bytes syntaxes.Text bs h = text_bytes bs (IsUtf8-from_is_utf8 bs (and_parts (not (length bs == 0)) (is_utf8 bs) h).1)
valid_bytes syntaxes.Ascii bs h = weaker is_ascii bs ascii_byte h
valid_bytes syntaxes.Numeric bs h = weaker is_digit_or_space bs digit_or_space_byte (and_parts (not (length bs == 0)) (list_all is_digit_or_space bs) h).1
valid_bytes syntaxes.Boolean bs h = elim (one_of (bytes_eq bs (codes "TRUE")) (bytes_eq bs (codes "FALSE")) h) [
  | inl is ↦ equal_bytes bs (codes "TRUE") is refl
  | inr is ↦ equal_bytes bs (codes "FALSE") is refl
]
valid_bytes syntaxes.Integer bs h = integer_bytes bs h
valid_bytes syntaxes.Oid bs h = weaker is_oid_byte bs oid_byte (and_parts (not (length bs == 0)) (list_all is_oid_byte bs) h).1
valid_bytes syntaxes.Octet bs h = h

-- what a contract sees of a slice of bytes
pub are_bytes : (bs : List ℕ) → ((i : ℕ) → get_or bs i 0 < 256) → AreBytes bs
are_bytes [] each = refl
are_bytes (b ∷ bs) each = more b bs (each 0) (are_bytes bs (λ i. each (suc i)))
