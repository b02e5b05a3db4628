-- A whole number is read from the texts that spell it, and from no others.
use Rattle.std.proofs.Common.{◌≡◌, ℕ, zero, suc, ◌+◌, ◌-◌, ◌*◌, ◌^◌, ◌<◌, ◌≤◌, Bool, true, false, cond, not, ◌&&◌, ◌||◌, eqb, ltb, leb, List, [], ◌∷◌, length, inl, inr, get_or, ℤ, pos, neg_ℤ, refl, sym, ap, subst, ◌∙◌, mul-le-mul, arith}
use Rattle.std.specs.List.{AllByRecursion}
use Rattle.std.specs.Str.{all_ascii_digits}
use Rattle.std.specs.Str.Parse.{digits_value}
use Rattle.std.proofs.lemmas.Bool.{and_parts, eqb-true, ltb-true, lt-ltb, le-leb, leb-true, ne_eqb}
use Rattle.std.proofs.Math.Nat.{pow-zero, pow-succ'}
use Rattle.std.proofs.lemmas.Bool.Decides.{nat_tests}
use Rattle.std.proofs.lemmas.Int.{ints}
use Rattle.std.proofs.lemmas.Str.Parse.{IsNumeralModel, numerals_by_weight, tells_all_ascii_digits}
use Rattle.matching.specs.Integers.{are_plain_digits, is_minus, after_minus, magnitude, fits, is_integer, value}
use Rattle.matching.specs.IntegerTexts.{IsDigit, IsLeadingDigit, IsNumeral, worth, SpellsNatural, SpellsNegative, Spells, IsInRange}

-- ---- digits, and what they are worth

by_weight : IsNumeralModel (λ ds. all_ascii_digits ds ≡ true) worth
by_weight = numerals_by_weight (λ ds. all_ascii_digits ds ≡ true) tells_all_ascii_digits worth (record { empty = refl; more = λ c cs k. refl })

worth_is : (ds : List ℕ) → all_ascii_digits ds ≡ true → digits_value 10 ds ≡ worth ds
worth_is ds h = sym (by_weight.same ds (by_weight.to ds h))

digits_found : (ds : List ℕ) → AllByRecursion IsDigit ds → all_ascii_digits ds ≡ true
digits_found [] h = refl
digits_found (d ∷ ds) h = tells_all_ascii_digits.more d ds h.0 (digits_found ds h.1)

digits_only : (ds : List ℕ) → all_ascii_digits ds ≡ true → AllByRecursion IsDigit ds
digits_only [] h = tt
digits_only (d ∷ ds) h = let k = tells_all_ascii_digits.parts d ds h in (k.0, digits_only ds k.1)

-- ---- digits without a zero before others

all_three : (a b c : Bool) → a ≡ true → b ≡ true → c ≡ true → (a && b && c) ≡ true
all_three a b c e f g = (λ i. e i && f i && g i)

either_last : (a b : Bool) → b ≡ true → (a || b) ≡ true
either_last true b h = refl
either_last false b h = h

no_zero : (d : ℕ) → 49 ≤ d → not (eqb d 48) ≡ true
no_zero d h = ap not (ne_eqb d 48 (λ e. omega arith))

leading : (d : ℕ) → IsDigit d → not (eqb d 48) ≡ true → IsLeadingDigit d
leading d h other = grind (arith, nat_tests)

a_leading_digit : (d : ℕ) → IsLeadingDigit d → IsDigit d
a_leading_digit d h = (omega arith, h.1)

plain_more : (d : ℕ) (ds : List ℕ) → IsLeadingDigit d → AllByRecursion IsDigit ds → are_plain_digits (d ∷ ds) ≡ true
plain_more d ds h are =
    all_three (all_ascii_digits (d ∷ ds)) (ltb 0 (length (d ∷ ds))) (eqb (length (d ∷ ds)) 1 || not (eqb d 48)) (digits_found (d ∷ ds) (a_leading_digit d h, are)) (lt-ltb 0 (length (d ∷ ds)) (omega arith))
    (either_last (eqb (length (d ∷ ds)) 1) (not (eqb d 48)) (no_zero d h.0))

plain_found : (ds : List ℕ) → IsNumeral ds → are_plain_digits ds ≡ true
plain_found [] h = absurd h
plain_found (d ∷ []) h = all_three (all_ascii_digits (d ∷ [])) true true (digits_found (d ∷ []) (h, tt)) refl refl
plain_found (d ∷ e ∷ ds) h = plain_more d (e ∷ ds) h.0 h.1

record ArePlain (ds : List ℕ) : Type 0 where
  digits : all_ascii_digits ds ≡ true
  some : 0 < length ds
  first : (eqb (length ds) 1 || not (eqb (get_or ds 0 0) 48)) ≡ true

plain_parts : (ds : List ℕ) → are_plain_digits ds ≡ true → ArePlain ds
plain_parts ds h =
    let k = and_parts (all_ascii_digits ds && ltb 0 (length ds)) (eqb (length ds) 1 || not (eqb (get_or ds 0 0) 48)) h in
    let m = and_parts (all_ascii_digits ds) (ltb 0 (length ds)) k.0 in
    record { digits = m.0; some = ltb-true 0 (length ds) m.1; first = k.1 }

not_alone : (t b : Bool) → t ≡ false → (t || b) ≡ true → b ≡ true
not_alone true b e h = absurd cc
not_alone false b e h = h

plain_only : (ds : List ℕ) → are_plain_digits ds ≡ true → IsNumeral ds
plain_only [] h = absurd (omega (arith, (plain_parts [] h).some))
plain_only (d ∷ []) h = (digits_only (d ∷ []) (plain_parts (d ∷ []) h).digits).0
plain_only (d ∷ e ∷ ds) h =
    let plain = plain_parts (d ∷ e ∷ ds) h in
    let are = digits_only (d ∷ e ∷ ds) plain.digits in
    let more : eqb (length (d ∷ e ∷ ds)) 1 ≡ false = ne_eqb (length (d ∷ e ∷ ds)) 1 (λ one. omega arith) in
    (leading d are.0 (not_alone (eqb (length (d ∷ e ∷ ds)) 1) (not (eqb d 48)) more plain.first), are.1)

-- ---- numbers without a hyphen

first_digit : (d : ℕ) (ds : List ℕ) → IsNumeral (d ∷ ds) → 48 ≤ d
first_digit d [] h = h.0
first_digit d (e ∷ ds) h = omega (arith, h.0.0)

no_hyphen : (d : ℕ) → 48 ≤ d → eqb d 45 ≡ false
no_hyphen d h = ne_eqb d 45 (λ e. omega arith)

natural_sign : (text : List ℕ) → IsNumeral text → (is_minus text ≡ false) × (after_minus text ≡ text)
natural_sign [] h = absurd h
natural_sign (d ∷ ds) h = let off = no_hyphen d (first_digit d ds h) in (off, ap (λ (t : Bool). cond t ds (d ∷ ds)) off)

natural_worth : (text : List ℕ) → IsNumeral text → magnitude text ≡ worth text
natural_worth text h = ap (digits_value 10) (natural_sign text h).1 ∙ worth_is text (plain_parts text (plain_found text h)).digits

natural_value : (text : List ℕ) (n : ℤ) → SpellsNatural text n → value text ≡ n
natural_value text n h =
    (λ i. cond ((natural_sign text h.0).0 i) (neg_ℤ (pos (natural_worth text h.0 i))) (pos (natural_worth text h.0 i))) ∙ sym h.1

natural_fits : (m : ℕ) (n : ℤ) → n ≡ pos m → IsInRange n → fits false m ≡ true
natural_fits m n is range = lt-ltb m (2 ^ 127) (omega (arith, ints, is, range.1))

natural_found : (text : List ℕ) (n : ℤ) → SpellsNatural text n → IsInRange n → is_integer text ≡ true
natural_found text n h range =
    let sign = natural_sign text h.0 in
    (λ i. are_plain_digits (sign.1 i) && fits (sign.0 i) (natural_worth text h.0 i))
    ∙ (λ i. plain_found text h.0 i && natural_fits (worth text) n h.1 range i)

-- ---- numbers with a hyphen

some_power : (k : ℕ) → 1 ≤ 10 ^ k
some_power zero = omega (arith, pow-zero 10)
some_power (suc k) = omega (arith, pow-succ' 10 k, some_power k)

some_worth : (d : ℕ) (ds : List ℕ) → IsLeadingDigit d → 0 < worth (d ∷ ds)
some_worth d ds h = by (d - 48) (10 ^ length ds) (omega (arith, h.0)) (some_power (length ds)) where
  by : (a b : ℕ) → 1 ≤ a → 1 ≤ b → 0 < a * b + worth ds
  by a b some power = omega (arith, mul-le-mul some power)

negative_worth : (d : ℕ) (ds : List ℕ) → IsLeadingDigit d → AllByRecursion IsDigit ds → digits_value 10 (d ∷ ds) ≡ worth (d ∷ ds)
negative_worth d ds h are = worth_is (d ∷ ds) (digits_found (d ∷ ds) (a_leading_digit d h, are))

negative_value : (text : List ℕ) (n : ℤ) → SpellsNegative text n → value text ≡ n
negative_value text n h = ap value h.text_is ∙ ap (λ (m : ℕ). neg_ℤ (pos m)) (negative_worth h.first h.digits h.leads h.follow) ∙ sym h.number_is

negative_fits : (m : ℕ) (n : ℤ) → n ≡ neg_ℤ (pos m) → 0 < m → IsInRange n → fits true m ≡ true
negative_fits m n is some range = (λ i. lt-ltb 0 m some i && le-leb m (2 ^ 127) (omega (arith, ints, is, range.0)) i)

negative_found : (text : List ℕ) (n : ℤ) → SpellsNegative text n → IsInRange n → is_integer text ≡ true
negative_found text n h range =
    ap is_integer h.text_is
    ∙ (λ i. plain_more h.first h.digits h.leads h.follow i && fits true (negative_worth h.first h.digits h.leads h.follow i))
    ∙ negative_fits (worth (h.first ∷ h.digits)) n h.number_is (some_worth h.first h.digits h.leads) range

-- ---- both

pub spelled_value : (text : List ℕ) (n : ℤ) → Spells text n → value text ≡ n
spelled_value text n (inl h) = natural_value text n h
spelled_value text n (inr h) = negative_value text n h

pub spelled_found : (text : List ℕ) (n : ℤ) → Spells text n → IsInRange n → is_integer text ≡ true
spelled_found text n (inl h) range = natural_found text n h range
spelled_found text n (inr h) range = negative_found text n h range

abbrev IsSpelled : List ℕ → ℤ → Type 0
IsSpelled text n = Spells text n × IsInRange n

natural_range : (m : ℕ) → fits false m ≡ true → IsInRange (pos m)
natural_range m h = (omega (arith, ints), omega (arith, ints, ltb-true m (2 ^ 127) h))

negative_range : (m : ℕ) → m ≤ 2 ^ 127 → 0 < m → IsInRange (neg_ℤ (pos m))
negative_range m le some = (omega (arith, ints), omega (arith, ints))

leading_worth : (d : ℕ) (ds : List ℕ) → IsNumeral (d ∷ ds) → 0 < worth (d ∷ ds) → IsLeadingDigit d × AllByRecursion IsDigit ds
leading_worth d [] h some = ((omega (arith, some, one_place d), h.1), tt) where
  one_place : (d : ℕ) → worth (d ∷ []) ≡ d - 48
  one_place d = omega arith
leading_worth d (e ∷ ds) h some = h

spelled_negative : (ds : List ℕ) → are_plain_digits ds ≡ true → fits true (digits_value 10 ds) ≡ true → IsSpelled (45 ∷ ds) (neg_ℤ (pos (digits_value 10 ds)))
spelled_negative [] plain fit = absurd (plain_only [] plain)
spelled_negative (d ∷ ds) plain fit =
    let numeral = plain_only (d ∷ ds) plain in
    let is = worth_is (d ∷ ds) (plain_parts (d ∷ ds) plain).digits in
    let k = and_parts (ltb 0 (digits_value 10 (d ∷ ds))) (leb (digits_value 10 (d ∷ ds)) (2 ^ 127)) fit in
    let some = ltb-true 0 (digits_value 10 (d ∷ ds)) k.0 in
    let leads = leading_worth d ds numeral (omega (arith, some, is)) in (
      inr (record { first = d; digits = ds; leads = leads.0; follow = leads.1; text_is = refl; number_is = ap (λ (m : ℕ). neg_ℤ (pos m)) is }),
      negative_range (digits_value 10 (d ∷ ds)) (leb-true (digits_value 10 (d ∷ ds)) (2 ^ 127) k.1) some,
    )

spelled_natural : (text : List ℕ) → are_plain_digits text ≡ true → fits false (digits_value 10 text) ≡ true → IsSpelled text (pos (digits_value 10 text))
spelled_natural text plain fit =
    (inl (plain_only text plain, ap (λ (m : ℕ). pos m) (worth_is text (plain_parts text plain).digits)), natural_range (digits_value 10 text) fit)

by_sign : (b : ℕ) (bs : List ℕ) (t : Bool) → eqb b 45 ≡ t → (are_plain_digits (cond t bs (b ∷ bs)) && fits t (digits_value 10 (cond t bs (b ∷ bs)))) ≡ true
    → IsSpelled (b ∷ bs) (cond t (neg_ℤ (pos (digits_value 10 (cond t bs (b ∷ bs))))) (pos (digits_value 10 (cond t bs (b ∷ bs)))))
by_sign b bs true is h =
    let k = and_parts (are_plain_digits bs) (fits true (digits_value 10 bs)) h in
    subst (λ (c : ℕ). IsSpelled (c ∷ bs) (neg_ℤ (pos (digits_value 10 bs)))) (sym (eqb-true b 45 is)) (spelled_negative bs k.0 k.1)
by_sign b bs false is h =
    let k = and_parts (are_plain_digits (b ∷ bs)) (fits false (digits_value 10 (b ∷ bs))) h in
    spelled_natural (b ∷ bs) k.0 k.1

pub spelled_only : (text : List ℕ) → is_integer text ≡ true → Spells text (value text) × IsInRange (value text)
spelled_only [] h = absurd (plain_only [] (and_parts (are_plain_digits []) (fits false (magnitude [])) h).0)
spelled_only (b ∷ bs) h = by_sign b bs (eqb b 45) refl h
