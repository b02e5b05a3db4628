-- Names and OIDs (RFC 4512, 1.4).
use Rattle.std.specs.Prelude.{ℕ, Bool, true, false, ◌||◌, ◌&&◌, not, ◌==◌, List, [], ◌∷◌, codes, Option, Some, None, if◌then◌else◌}
use Rattle.std.specs.List.{list_any, list_all}
use Rattle.std.specs.Char.{is_ascii_alphabetic, is_ascii_alphanumeric, is_ascii_digit}
use Rattle.std.specs.Str.{str_eq_ignore_ascii_case}
use Rattle.base.specs.Ascii.{hyphen, full_stop, underscore}

abbrev pub is_name_byte : ℕ → Bool
is_name_byte b = is_ascii_alphanumeric b || b == hyphen || b == underscore

-- a letter, then letters, digits, `-` and `_`
abbrev pub is_name : List ℕ → Bool
is_name [] = false
is_name (b ∷ bs) = is_ascii_alphabetic b && list_all is_name_byte bs

-- words that begin a line of LDIF that is no attribute line
abbrev pub reserved_words : List (List ℕ)
reserved_words = codes "dn" ∷ codes "version" ∷ codes "control" ∷ codes "changetype" ∷ []

abbrev pub is_reserved : List ℕ → Bool
is_reserved text = list_any (λ w. str_eq_ignore_ascii_case w text) reserved_words

abbrev pub is_type_name : List ℕ → Bool
is_type_name text = is_name text && not (is_reserved text)

-- whether a digit is due after a byte, where one was due before it or not; none where the byte can't stand there
abbrev pub due_after : Bool → ℕ → Option Bool
due_after due b = if is_ascii_digit b then Some false else (if b == full_stop && not due then Some true else None)

-- groups of digits joined by single dots: a digit is due at the front and after each dot
unfoldable pub are_groups : Bool → List ℕ → Bool
are_groups due [] = not due
are_groups due (b ∷ bs) = if is_ascii_digit b then are_groups false bs else (b == full_stop && not due && are_groups true bs)

abbrev pub is_oid : List ℕ → Bool
is_oid text = are_groups true text

abbrev pub is_name_or_oid : List ℕ → Bool
is_name_or_oid text = is_name text || is_oid text
