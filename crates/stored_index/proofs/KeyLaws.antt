-- Keys as they are written, and as they are read.
use Rattle.std.proofs.Common.{◌≡◌, ℕ, zero, suc, ◌+◌, ◌*◌, ◌-◌, ◌/◌, ◌%◌, ◌<◌, ◌≤◌, ◌==◌, ◌&&◌, Bool, true, false, cond, nat_lt, nat_le, List, [], ◌∷◌, slice_index, Result, Ok, Err, inl, inr, refl, sym, ap, ◌∙◌, subst, arith}
use Rattle.std.proofs.lemmas.Bool.{eqb-true, and_parts, cases_lt, false_from_ne_true}
use Rattle.std.proofs.lemmas.Bool.Decides.{nat_tests}
use Rattle.std.proofs.lemmas.List.Elements.{All-nil, All-cons}
use Rattle.std.specs.List.{AllByRecursion}
use Rattle.std.specs.Char.{is_ascii_digit}
use Rattle.std.proofs.lemmas.Slice.Eq.{bytes_eq-Decides}
use Rattle.base.specs.Answers.{◌>>=◌}
use Rattle.base.specs.Ascii.{hyphen}
use Rattle.base.proofs.Bound.{bind_ok, same_ok}
use Rattle.hex.specs.Hex.{lower_digits, encode_with, encode_lower}
use Rattle.memchr.specs.Find.{is_byte}
use Rattle.index_text.specs.IndexTexts.{key_text}
use Rattle.stored_index.specs.Words.{is_hyphen, is_small_hex_letter, hex_digit, pair_in, bytes_in, key_in}
use Rattle.stored_index.specs.Rows.{IsByte}
use Rattle.stored_index.specs.declared.fault.IndexFaultKind.{IndexFaultKind}
use Rattle.stored_index.specs.declared.fault.IndexFaultKind.TheVariants.{Form}
use Rattle.stored_index.proofs.NumberLaws.{Lacks}

abbrev Digit : Type 0
Digit = Result ℕ IndexFaultKind

-- ---- digits, by computing their tables

abbrev is_told : ℕ → Digit → Bool
is_told b (Ok d) = (slice_index lower_digits d == b) && nat_lt d 16
is_told b (Err fault) = true

abbrev all_told : ℕ → Bool
all_told zero = true
all_told (suc n) = is_told n (hex_digit n) && all_told n

told_at : (n k : ℕ) → all_told n ≡ true → k < n → is_told k (hex_digit k) ≡ true
told_at zero k h lt = absurd (omega arith)
told_at (suc n) k h lt =
    let parts = and_parts (is_told n (hex_digit n)) (all_told n) h in
    elim (cases_lt k n) [
      | inl below ↦ told_at n k parts.1 below
      | inr top ↦
          let e : k ≡ n = omega arith in
          rw e parts.0
    ]

abbrev digit : ℕ → Digit
digit n = Ok n

no_letter : (t : Bool) → cond t false false ≡ false
no_letter true = refl
no_letter false = refl

none_above : (b : ℕ) → 103 ≤ b → hex_digit b ≡ Err Form
none_above b high =
    let one : is_ascii_digit b ≡ false = grind (arith, nat_tests) in
    let over : nat_le b 102 ≡ false = grind (arith, nat_tests) in
    ap (λ (t : Bool). cond t (digit (b - 48)) (cond (is_small_hex_letter b) (digit (b - 97 + 10)) (Err Form))) one
    ∙ ap (λ (t : Bool). cond t (digit (b - 97 + 10)) (Err Form)) (ap (λ (t : Bool). cond (nat_le 97 b) t false) over ∙ no_letter (nat_le 97 b))

told_by : (b d : ℕ) → hex_digit b ≡ Ok d → is_told b (hex_digit b) ≡ true → (slice_index lower_digits d ≡ b) × (d < 16)
told_by b d e told =
    let here : ((slice_index lower_digits d == b) && nat_lt d 16) ≡ true = sym (ap (is_told b) e) ∙ told in
    let parts = and_parts (slice_index lower_digits d == b) (nat_lt d 16) here in
    (eqb-true (slice_index lower_digits d) b parts.0, grind (arith, nat_tests, parts.1))

pub digit_writes : (b d : ℕ) → hex_digit b ≡ Ok d → (slice_index lower_digits d ≡ b) × (d < 16)
digit_writes b d e =
    elim (cases_lt b 103) [
      | inl below ↦ told_by b d e (told_at 103 b refl below)
      | inr high ↦
          let bad : digit d ≡ Err Form = sym e ∙ none_above b (omega arith) in
          absurd cc
    ]

abbrev is_same : ℕ → Digit → Bool
is_same d (Ok x) = x == d
is_same d (Err fault) = false

abbrev reads_back : ℕ → Bool
reads_back d = is_same d (hex_digit (slice_index lower_digits d))

abbrev all_read_back : ℕ → Bool
all_read_back zero = true
all_read_back (suc n) = reads_back n && all_read_back n

reads_back_at : (n k : ℕ) → all_read_back n ≡ true → k < n → reads_back k ≡ true
reads_back_at zero k h lt = absurd (omega arith)
reads_back_at (suc n) k h lt =
    let parts = and_parts (reads_back n) (all_read_back n) h in
    elim (cases_lt k n) [
      | inl below ↦ reads_back_at n k parts.1 below
      | inr top ↦
          let e : k ≡ n = omega arith in
          rw e parts.0
    ]

same_by : (d : ℕ) (r : Digit) → is_same d r ≡ true → r ≡ Ok d
same_by d (Ok x) h = ap digit (eqb-true x d h)
same_by d (Err fault) h = absurd cc

pub digit_read : (d : ℕ) → d < 16 → hex_digit (slice_index lower_digits d) ≡ Ok d
digit_read d lt = same_by d (hex_digit (slice_index lower_digits d)) (reads_back_at 16 d refl lt)

-- ---- bytes

abbrev pub Text : Type 0
Text = Result (List ℕ) IndexFaultKind

abbrev pub text : List ℕ → Text
text bs = Ok bs

pub bytes_write : (word bs : List ℕ) → bytes_in word ≡ Ok bs → (word ≡ encode_lower bs) × AllByRecursion IsByte bs
unfolding bytes_in encode_with
bytes_write [] [] e = (refl, tt)
bytes_write [] (b ∷ bs) e = absurd cc
bytes_write (high ∷ []) bs e = absurd cc
bytes_write (high ∷ low ∷ rest) bs e =
    let one = bind_ok (pair_in high low) (λ b. bytes_in rest >>= λ bs. text (b ∷ bs)) bs e in
    let more = bind_ok (bytes_in rest) (λ bs. text (one.0 ∷ bs)) bs one.2 in
    let h = bind_ok (hex_digit high) (λ h. hex_digit low >>= λ l. digit (h * 16 + l)) one.0 one.1 in
    let l = bind_ok (hex_digit low) (λ l. digit (h.0 * 16 + l)) one.0 h.2 in
    let hd = digit_writes high h.0 h.1 in
    let ld = digit_writes low l.0 l.1 in
    let byte : h.0 * 16 + l.0 ≡ one.0 = same_ok (h.0 * 16 + l.0) one.0 l.2 in
    let all : one.0 ∷ more.0 ≡ bs = same_ok (one.0 ∷ more.0) bs more.2 in
    let ih = bytes_write rest more.0 more.1 in
    let up : one.0 / 16 ≡ h.0 = omega (arith, byte, ld.1) in
    let down : one.0 % 16 ≡ l.0 = omega (arith, byte, ld.1) in
    let hc : high ≡ slice_index lower_digits (one.0 / 16) = sym (ap (slice_index lower_digits) up ∙ hd.0) in
    let lc : low ≡ slice_index lower_digits (one.0 % 16) = sym (ap (slice_index lower_digits) down ∙ ld.0) in
    ((λ i. hc i ∷ lc i ∷ ih.0 i) ∙ ap encode_lower all, subst (AllByRecursion IsByte) all (omega (arith, byte, hd.1, ld.1), ih.1))

pub bytes_read : (bs : List ℕ) → AllByRecursion IsByte bs → bytes_in (encode_lower bs) ≡ Ok bs
unfolding bytes_in encode_with
bytes_read [] all = refl
bytes_read (b ∷ bs) all =
    let small : b < 256 = all.0 in
    let high : b / 16 < 16 = omega arith in
    let low : b % 16 < 16 = omega arith in
    let whole : b / 16 * 16 + b % 16 ≡ b = omega arith in
    ap (λ (h : Digit). (h >>= λ h. hex_digit (slice_index lower_digits (b % 16)) >>= λ l. digit (h * 16 + l)) >>= λ b. bytes_in (encode_lower bs) >>= λ bs. text (b ∷ bs)) (digit_read (b / 16) high)
    ∙ ap (λ (l : Digit). (l >>= λ l. digit (b / 16 * 16 + l)) >>= λ b. bytes_in (encode_lower bs) >>= λ bs. text (b ∷ bs)) (digit_read (b % 16) low)
    ∙ ap (λ (r : Text). r >>= λ bs. text ((b / 16 * 16 + b % 16) ∷ bs)) (bytes_read bs all.1)
    ∙ ap (λ (x : ℕ). text (x ∷ bs)) whole

-- ---- keys

bytes_key : (b : ℕ) (bs key : List ℕ) → bytes_in (b ∷ bs) ≡ Ok key → (b ∷ bs ≡ key_text key) × AllByRecursion IsByte key
unfolding encode_with
bytes_key b bs [] e =
    let none : b ∷ bs ≡ [] = (bytes_write (b ∷ bs) [] e).0 in
    absurd cc
bytes_key b bs (k ∷ ks) e = bytes_write (b ∷ bs) (k ∷ ks) e

key_by : (h : Bool) (b : ℕ) (bs key : List ℕ) → is_hyphen (b ∷ bs) ≡ h → cond h (text []) (bytes_in (b ∷ bs)) ≡ Ok key → (b ∷ bs ≡ key_text key) × AllByRecursion IsByte key
key_by true b bs key is e =
    let none : [] ≡ key = same_ok [] key e in
    ((bytes_eq-Decides (b ∷ bs) (hyphen ∷ [])).0 is ∙ ap key_text none, subst (AllByRecursion IsByte) none tt)
key_by false b bs key is e = bytes_key b bs key e

pub key_writes : (word key : List ℕ) → key_in word ≡ Ok key → (word ≡ key_text key) × AllByRecursion IsByte key
unfolding key_in
key_writes [] key e = absurd cc
key_writes (b ∷ bs) key e = key_by (is_hyphen (b ∷ bs)) b bs key refl e

no_hyphen : (t : Bool) → (t && false) ≡ false
no_hyphen true = refl
no_hyphen false = refl

pub key_read : (key : List ℕ) → AllByRecursion IsByte key → key_in (key_text key) ≡ Ok key
unfolding key_in bytes_in encode_with
key_read [] all = refl
key_read (b ∷ bs) all =
    ap (λ (t : Bool). cond t (text []) (bytes_in (encode_lower (b ∷ bs)))) (no_hyphen (slice_index lower_digits (b / 16) == hyphen))
    ∙ bytes_read (b ∷ bs) all

-- ---- what is a key has no other bytes than digits and a hyphen

digit_lacks : (c b d : ℕ) → hex_digit c ≡ Err Form → hex_digit b ≡ Ok d → is_byte c b ≡ false
digit_lacks c b d other e = false_from_ne_true (is_byte c b) (λ is. let both : digit d ≡ Err Form = sym e ∙ ap hex_digit (eqb-true b c is) ∙ other in absurd cc)

pub hex_lacks : (c : ℕ) (bs : List ℕ) → hex_digit c ≡ Err Form → AllByRecursion IsByte bs → Lacks c (encode_lower bs)
unfolding encode_with
hex_lacks c [] other all = All-nil (λ b. is_byte c b ≡ false)
hex_lacks c (b ∷ bs) other all =
    let small : b < 256 = all.0 in
    let P = λ (b : ℕ). is_byte c b ≡ false in
    let high = slice_index lower_digits (b / 16) in
    let low = slice_index lower_digits (b % 16) in
    All-cons P high (low ∷ encode_lower bs) (digit_lacks c high (b / 16) other (digit_read (b / 16) (omega arith)))
    (All-cons P low (encode_lower bs) (digit_lacks c low (b % 16) other (digit_read (b % 16) (omega arith))) (hex_lacks c bs other all.1))

pub key_lacks : (c : ℕ) (key : List ℕ) → hex_digit c ≡ Err Form → is_byte c hyphen ≡ false → AllByRecursion IsByte key → Lacks c (key_text key)
key_lacks c [] other hyph all = All-cons (λ b. is_byte c b ≡ false) hyphen [] hyph (All-nil (λ b. is_byte c b ≡ false))
key_lacks c (b ∷ bs) other hyph all = hex_lacks c (b ∷ bs) other all
