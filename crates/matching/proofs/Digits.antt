-- Reading digits from the left.
use Rattle.std.proofs.Common.{◌≡◌, ℕ, ◌+◌, ◌-◌, ◌*◌, ◌<◌, ◌≤◌, Bool, true, ◌&&◌, List, [], ◌∷◌, length, get_or, take, refl, ap, ◌∙◌, arith}
use Rattle.std.specs.List.{list_all}
use Rattle.std.specs.Char.{is_ascii_digit, digit_value}
use Rattle.std.specs.Str.{all_ascii_digits}
use Rattle.std.specs.Str.Parse.{digits_value, AllDigits}
use Rattle.std.proofs.lemmas.Str.Parse.{numerals_by_value, tells_all_ascii_digits, digit_at, digits_value-take-le}
use Rattle.std.proofs.lemmas.Int.Digits.{digits_value_more}
use Rattle.std.proofs.lemmas.Bool.{le-ltb, lt-ltb}

pub same_test : (ds : List ℕ) → list_all is_ascii_digit ds ≡ all_ascii_digits ds
same_test [] = refl
same_test (c ∷ cs) = ap (λ (b : Bool). is_ascii_digit c && b) (same_test cs)

all_digits : (ds : List ℕ) → all_ascii_digits ds ≡ true → AllDigits 10 ds
all_digits ds h = (numerals_by_value _ tells_all_ascii_digits).to ds h

pub low : (ds : List ℕ) (i : ℕ) → all_ascii_digits ds ≡ true → i < length ds → 48 ≤ get_or ds i 0
low ds i h lt = let r = digit_at ds i (all_digits ds h) lt in omega (arith, r)

pub high : (ds : List ℕ) (i : ℕ) → all_ascii_digits ds ≡ true → i < length ds → get_or ds i 0 ≤ 57
high ds i h lt = let r = digit_at ds i (all_digits ds h) lt in omega (arith, r)

value_at : (c : ℕ) → 48 ≤ c → c ≤ 57 → digit_value c ≡ c - 48
value_at c from to =
    let past : c < 58 = omega arith in
    rw (le-ltb c 48 from, lt-ltb c 58 past) refl

-- the next digit
pub more : (ds : List ℕ) (i : ℕ) → all_ascii_digits ds ≡ true → i < length ds → digits_value 10 (take (i + 1) ds) ≡ digits_value 10 (take i ds) * 10 + (get_or ds i 0 - 48)
more ds i h lt = digits_value_more 10 ds i lt ∙ ap (λ (d : ℕ). digits_value 10 (take i ds) * 10 + d) (value_at (get_or ds i 0) (low ds i h lt) (high ds i h lt))

pub too_large : (ds : List ℕ) (i total limit : ℕ) → all_ascii_digits ds ≡ true → i < length ds → total ≡ digits_value 10 (take i ds) → limit ≤ total * 10 + (get_or ds i 0 - 48) → limit ≤ digits_value 10 ds
too_large ds i total limit h lt so_far over =
    let all : digits_value 10 (take (i + 1) ds) ≤ digits_value 10 ds = digits_value-take-le 10 ds (i + 1) (omega arith) in
    let next = more ds i h lt in
    omega (arith, next, so_far, over, all)
