-- The words of an index text: numbers and keys. Each is written in one way only.
use Rattle.std.specs.Prelude.{ℕ, ◌+◌, ◌*◌, ◌-◌, ◌==◌, ◌||◌, Bool, true, false, nat_lt, nat_le, if◌then◌else◌, List, [], ◌∷◌, length, Result, Ok, Err}
use Rattle.std.specs.Str.{bytes_eq}
use Rattle.std.specs.Char.{is_ascii_digit}
use Rattle.base.specs.Answers.{◌>>=◌}
use Rattle.base.specs.Ascii.{hyphen}
use Rattle.stored_index.specs.declared.fault.IndexFaultKind.{IndexFaultKind}
use Rattle.stored_index.specs.declared.fault.IndexFaultKind.TheVariants.{Form}

abbrev pub is_empty : List ℕ → Bool
is_empty [] = true
is_empty (b ∷ bs) = false

-- ---- numbers, in decimal

-- no leading zero, and at most ten digits
abbrev pub has_number_form : List ℕ → Bool
has_number_form [] = false
has_number_form (b ∷ bs) = if b == 48 then is_empty bs else nat_lt (length bs) 10

-- the number that these digits write behind those of another
unfoldable pub number_after : ℕ → List ℕ → Result ℕ IndexFaultKind
number_after n [] = Ok n
number_after n (b ∷ bs) = if is_ascii_digit b then number_after (n * 10 + (b - 48)) bs else Err Form

unfoldable pub number_in : List ℕ → Result ℕ IndexFaultKind
number_in word = if has_number_form word then number_after 0 word else Err Form

-- ---- keys, in hexadecimal

abbrev pub is_small_hex_letter : ℕ → Bool
is_small_hex_letter b = if nat_le 97 b then nat_le b 102 else false

abbrev pub is_hex_byte : ℕ → Bool
is_hex_byte b = is_ascii_digit b || is_small_hex_letter b

abbrev pub hex_digit : ℕ → Result ℕ IndexFaultKind
hex_digit b = if is_ascii_digit b then Ok (b - 48) else (if is_small_hex_letter b then Ok (b - 97 + 10) else Err Form)

abbrev pub pair_in : ℕ → ℕ → Result ℕ IndexFaultKind
pair_in high low = hex_digit high >>= λ h. hex_digit low >>= λ l. Ok (h * 16 + l)

-- two digits a byte
unfoldable pub bytes_in : List ℕ → Result (List ℕ) IndexFaultKind
bytes_in [] = Ok []
bytes_in (high ∷ []) = Err Form
bytes_in (high ∷ low ∷ rest) = pair_in high low >>= λ b. bytes_in rest >>= λ bs. Ok (b ∷ bs)

abbrev pub is_hyphen : List ℕ → Bool
is_hyphen word = bytes_eq word (hyphen ∷ [])

-- a hyphen stands for the key without bytes
unfoldable pub key_in : List ℕ → Result (List ℕ) IndexFaultKind
key_in word = if is_empty word then Err Form else (if is_hyphen word then Ok [] else bytes_in word)
