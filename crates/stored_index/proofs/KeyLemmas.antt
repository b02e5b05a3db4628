-- Keys that are read as hexadecimal digits.
use Rattle.std.proofs.Common.{◌≡◌, ℕ, zero, suc, ◌+◌, ◌*◌, ◌-◌, ◌/◌, ◌%◌, ◌==◌, ◌&&◌, ◌||◌, Bool, true, false, cond, List, [], ◌∷◌, length, Result, Ok, Err, is_ok, ◌⊎◌, inl, inr, refl, sym, ap, ◌∙◌, arith}
use Rattle.std.proofs.lemmas.Bool.{eqb-true, eq-eqb, and_parts, cases_Bool}
use Rattle.std.specs.List.{list_all, AllByRecursion}
use Rattle.std.specs.Char.{is_ascii_digit}
use Rattle.base.specs.Answers.{◌>>=◌, Fails}
use Rattle.hex.specs.Hex.{IsBytes, decode_of, decode_pairs}
use Rattle.hex.specs.declared.error.FromHexError.{FromHexError}
use Rattle.hex.specs.declared.error.FromHexError.TheVariants as hex
use Rattle.hex.proofs.HexLemmas.{decode_of-encode_lower}
use Rattle.stored_index.specs.Words.{is_hex_byte, is_small_hex_letter, hex_digit, bytes_in}
use Rattle.stored_index.specs.Gives.{kind_of}
use Rattle.stored_index.specs.inner.HexFaults.{fault_by}
use Rattle.stored_index.specs.Rows.{IsByte}
use Rattle.stored_index.specs.declared.fault.IndexFaultKind.{IndexFaultKind}
use Rattle.stored_index.specs.declared.fault.IndexFaultKind.TheVariants.{Form}
use Rattle.stored_index.proofs.KeyLaws.{Text, text, bytes_write}

abbrev Told : Type 0 → Type 0
Told X = Result X IndexFaultKind

hex_told : (b : ℕ) → is_hex_byte b ≡ true → (d : ℕ) × (hex_digit b ≡ Ok d)
hex_told b e = by (is_ascii_digit b) (is_small_hex_letter b) (b - 48) (b - 97 + 10) e
  where
    by : (s t : Bool) (x y : ℕ) → (s || t) ≡ true → (d : ℕ) × (◌≡◌ {A = Told ℕ} (cond s (Ok x) (cond t (Ok y) (Err Form))) (Ok d))
    by true t x y e = (x, refl)
    by false true x y e = (y, refl)
    by false false x y e = absurd cc

no_digit : (b : ℕ) → is_hex_byte b ≡ false → hex_digit b ≡ Err Form
no_digit b e = by (is_ascii_digit b) (is_small_hex_letter b) (b - 48) (b - 97 + 10) e
  where
    by : (s t : Bool) (x y : ℕ) → (s || t) ≡ false → ◌≡◌ {A = Told ℕ} (cond s (Ok x) (cond t (Ok y) (Err Form))) (Err Form)
    by true t x y e = absurd cc
    by false true x y e = absurd cc
    by false false x y e = refl

-- two digits, and others behind them
module _ (high low : ℕ) (rest : List ℕ) where
  from_high : Told ℕ → Text
  from_high r = (r >>= λ h. hex_digit low >>= λ l. Ok (h * 16 + l)) >>= λ b. bytes_in rest >>= λ bs. text (b ∷ bs)

  from_low : ℕ → Told ℕ → Text
  from_low h r = (r >>= λ l. Ok (h * 16 + l)) >>= λ b. bytes_in rest >>= λ bs. text (b ∷ bs)

  from_rest : ℕ → Text → Text
  from_rest b r = r >>= λ bs. text (b ∷ bs)

  pair_goes_on : is_hex_byte high ≡ true → is_hex_byte low ≡ true → (b : ℕ) × (bytes_in (high ∷ low ∷ rest) ≡ from_rest b (bytes_in rest))
  unfolding bytes_in from_high from_low from_rest
  pair_goes_on h l =
      let d = hex_told high h in
      let e = hex_told low l in
      (d.0 * 16 + e.0, ap from_high d.1 ∙ ap (from_low d.0) e.1)

  high_stops : is_hex_byte high ≡ false → bytes_in (high ∷ low ∷ rest) ≡ Err Form
  unfolding bytes_in from_high
  high_stops h = ap from_high (no_digit high h)

  low_stops : is_hex_byte high ≡ true → is_hex_byte low ≡ false → bytes_in (high ∷ low ∷ rest) ≡ Err Form
  unfolding bytes_in from_high from_low
  low_stops h l = let d = hex_told high h in ap from_high d.1 ∙ ap (from_low d.0) (no_digit low l)

pub bytes_told : (n : ℕ) (word : List ℕ) → length word ≡ 2 * n → list_all is_hex_byte word ≡ true → (bs : List ℕ) × (bytes_in word ≡ Ok bs)
unfolding bytes_in from_rest
bytes_told n [] e all = ([], refl)
bytes_told n (b ∷ []) e all = absurd (omega arith)
bytes_told n (high ∷ low ∷ rest) e all =
    let first = and_parts (is_hex_byte high) (list_all is_hex_byte (low ∷ rest)) all in
    let second = and_parts (is_hex_byte low) (list_all is_hex_byte rest) first.1 in
    let pair = pair_goes_on high low rest first.0 second.0 in
    let more = bytes_told (n - 1) rest (omega arith) second.1 in
    (pair.0 ∷ more.0, pair.1 ∙ ap (from_rest high low rest pair.0) more.1)

pub odd : (word : List ℕ) → length word % 2 ≡ 1 → list_all is_hex_byte word ≡ true → bytes_in word ≡ Err Form
unfolding bytes_in from_rest
odd [] e all = absurd (omega arith)
odd (b ∷ []) e all = refl
odd (high ∷ low ∷ rest) e all =
    let first = and_parts (is_hex_byte high) (list_all is_hex_byte (low ∷ rest)) all in
    let second = and_parts (is_hex_byte low) (list_all is_hex_byte rest) first.1 in
    let pair = pair_goes_on high low rest first.0 second.0 in
    pair.1 ∙ ap (from_rest high low rest pair.0) (odd rest (omega arith) second.1)

pub other : (word : List ℕ) → list_all is_hex_byte word ≡ false → bytes_in word ≡ Err Form
unfolding bytes_in from_rest
other [] e = absurd cc
other (b ∷ []) e = refl
other (high ∷ low ∷ rest) e =
    elim (cases_Bool (is_hex_byte high)) [
      | inr isnt ↦ high_stops high low rest isnt
      | inl is ↦
          elim (cases_Bool (is_hex_byte low)) [
            | inr nor ↦ low_stops high low rest is nor
            | inl so ↦
                let pair = pair_goes_on high low rest is so in
                let left : list_all is_hex_byte rest ≡ false = rw (is, so) at e in
                pair.1 ∙ ap (from_rest high low rest pair.0) (other rest left)
          ]
    ]

pub are_pairs : (word : List ℕ) → ((length word % 2 == 0) && list_all is_hex_byte word) ≡ is_ok (bytes_in word)
are_pairs word =
    let even = length word % 2 == 0 in
    elim (cases_Bool (list_all is_hex_byte word)) [
      | inr isnt ↦ ap (λ (t : Bool). even && t) isnt ∙ never even ∙ sym (ap is_told (other word isnt))
      | inl is ↦
          elim (cases_Bool even) [
            | inl two ↦
                let length_is : length word ≡ 2 * (length word / 2) = omega (arith, eqb-true (length word % 2) 0 two) in
                (λ i. two i && is i) ∙ sym (ap is_told (bytes_told (length word / 2) word length_is is).1)
            | inr one ↦
                let left : length word % 2 ≡ 1 = grind (arith, one) in
                ap (λ (t : Bool). t && list_all is_hex_byte word) one ∙ sym (ap is_told (odd word left is))
          ]
    ]
  where
    is_told : Text → Bool
    is_told r = is_ok r

    never : (t : Bool) → (t && false) ≡ false
    never true = refl
    never false = refl

-- ---- what decodes

are_bytes : (bs : List ℕ) → AllByRecursion IsByte bs → IsBytes bs
are_bytes [] all i = omega arith
are_bytes (b ∷ bs) all zero = all.0
are_bytes (b ∷ bs) all (suc i) = are_bytes bs all.1 i

-- of an even number of digits
decodes : (word : List ℕ) → length word % 2 ≡ 0 → list_all is_hex_byte word ≡ true → (bs : List ℕ) × (bytes_in word ≡ Ok bs) × (decode_of word ≡ Ok bs)
decodes word even all =
    let told = bytes_told (length word / 2) word (omega arith) all in
    let written = bytes_write word told.0 told.1 in
    (told.0, told.1, ap decode_of written.0 ∙ decode_of-encode_lower told.0 (are_bytes told.0 written.1))

odd_length : (word : List ℕ) → length word % 2 ≡ 1 → decode_of word ≡ Err hex.OddLength
odd_length word e = ap (λ (t : Bool). cond t (Err hex.OddLength) (decode_pairs 0 word)) (eq-eqb (length word % 2) 1 e)

pub decoded : (word bs : List ℕ) → list_all is_hex_byte word ≡ true → decode_of word ≡ Ok bs → bytes_in word ≡ Ok bs
decoded word bs all e =
    elim (cases_Bool (length word % 2 == 1)) [
      | inl is ↦
          let none : Err hex.OddLength ≡ Ok bs = sym (odd_length word (eqb-true (length word % 2) 1 is)) ∙ e in
          absurd cc
      | inr isnt ↦
          let even : length word % 2 ≡ 0 = grind (arith, isnt) in
          let found = decodes word even all in
          found.1 ∙ same found.0 bs (sym found.2 ∙ e)
    ]
  where
    same : (xs ys : List ℕ) → ◌≡◌ {A = Result (List ℕ) FromHexError} (Ok xs) (Ok ys) → text xs ≡ text ys
    same xs ys e = cc

pub not_decoded : (word : List ℕ) (fault : FromHexError) → list_all is_hex_byte word ≡ true → decode_of word ≡ Err fault → bytes_in word ≡ Err Form
not_decoded word fault all e =
    elim (cases_Bool (length word % 2 == 1)) [
      | inl is ↦ odd word (eqb-true (length word % 2) 1 is) all
      | inr isnt ↦
          let even : length word % 2 ≡ 0 = grind (arith, isnt) in
          let found = decodes word even all in
          let none : ◌≡◌ {A = Result (List ℕ) FromHexError} (Ok found.0) (Err fault) = sym found.2 ∙ e in
          absurd cc
    ]

pub not_read : (word : List ℕ) (error : FromHexError) → list_all is_hex_byte word ≡ true → (error ≡ hex.OutOfMemory) ⊎ (decode_of word ≡ Err error) → Fails (kind_of (fault_by error)) (bytes_in word)
not_read word hex.OutOfMemory all h = tt
not_read word hex.OddLength all (inr h) = not_decoded word hex.OddLength all h
not_read word hex.OddLength all (inl h) = absurd cc
not_read word hex.InvalidStringLength all (inr h) = not_decoded word hex.InvalidStringLength all h
not_read word hex.InvalidStringLength all (inl h) = absurd cc
not_read word (hex.InvalidHexCharacter c i) all (inr h) = not_decoded word (hex.InvalidHexCharacter c i) all h
not_read word (hex.InvalidHexCharacter c i) all (inl h) = absurd cc
