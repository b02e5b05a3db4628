-- Whole numbers in decimal (RFC 4517, 3.3.16), within 128 signed bits.
use Rattle.std.specs.Prelude.{ℕ, ◌^◌, Bool, false, ◌&&◌, ◌||◌, not, ◌==◌, nat_lt, nat_le, List, [], ◌∷◌, length, slice_index, ℤ, pos, neg_ℤ, if◌then◌else◌}
use Rattle.std.specs.Str.{all_ascii_digits}
use Rattle.std.specs.Str.Parse.{digits_value}
use Rattle.base.specs.Ascii.{hyphen}

-- digits, at least one, and no zero before another digit
abbrev pub are_plain_digits : List ℕ → Bool
are_plain_digits ds = all_ascii_digits ds && nat_lt 0 (length ds) && (length ds == 1 || not (slice_index ds 0 == 48))

abbrev pub is_minus : List ℕ → Bool
is_minus [] = false
is_minus (b ∷ bs) = b == hyphen

abbrev pub after_minus : List ℕ → List ℕ
after_minus [] = []
after_minus (b ∷ bs) = if b == hyphen then bs else b ∷ bs

abbrev pub magnitude : List ℕ → ℕ
magnitude bytes = digits_value 10 (after_minus bytes)

-- below zero down to -2^127, and from zero to 2^127 - 1; there is no -0
abbrev pub fits : Bool → ℕ → Bool
fits is_negative n = if is_negative then nat_lt 0 n && nat_le n (2 ^ 127) else nat_lt n (2 ^ 127)

-- perhaps a minus, and plain digits
abbrev pub is_integer : List ℕ → Bool
is_integer bytes = are_plain_digits (after_minus bytes) && fits (is_minus bytes) (magnitude bytes)

-- the number that a text spells
abbrev pub value : List ℕ → ℤ
value bytes = if is_minus bytes then neg_ℤ (pos (magnitude bytes)) else pos (magnitude bytes)
