-- Runs of bytes that pass a test, and the tests that filters need.
use Rattle.std.specs.Prelude.{◌≡◌, ℕ, ◌==◌, Bool, true, false, List, [], ◌∷◌, if◌then◌else◌, nat_lt}
use Rattle.base.specs.Ascii.{left_parenthesis, right_parenthesis, asterisk, hyphen, full_stop, colon, semicolon, underscore}

abbrev pub exclamation_mark : ℕ
exclamation_mark = 33

abbrev pub ampersand : ℕ
ampersand = 38

abbrev pub vertical_line : ℕ
vertical_line = 124

abbrev pub tilde : ℕ
tilde = 126

-- each byte passes the test
abbrev pub Run : (ℕ → Bool) → List ℕ → Type 0
Run p [] = Unit {0}
Run p (b ∷ bytes) = (p b ≡ true) × Run p bytes

-- there is no byte, or it fails the test
abbrev pub Stops : (ℕ → Bool) → List ℕ → Type 0
Stops p [] = Unit {0}
Stops p (b ∷ bytes) = p b ≡ false

abbrev pub is_star : ℕ → Bool
is_star b = b == asterisk

-- no parenthesis
abbrev pub is_plain : ℕ → Bool
is_plain b = if b == left_parenthesis then false else (if b == right_parenthesis then false else true)

-- the end, or a parenthesis that closes
abbrev pub Closed : List ℕ → Type 0
Closed [] = Unit {0}
Closed (b ∷ bytes) = b ≡ right_parenthesis

-- a letter, a digit, `-`, `.`, `;` or `_`
abbrev pub is_name_byte : ℕ → Bool
is_name_byte b =
    if nat_lt b 48 then (if b == hyphen then true else b == full_stop)
    else (if nat_lt b 58 then true
    else (if nat_lt b 65 then b == semicolon
    else (if nat_lt b 91 then true
    else (if nat_lt b 97 then b == underscore
    else nat_lt b 123))))

-- what an item begins with
abbrev pub is_item_first : ℕ → Bool
is_item_first b = if b == colon then true else is_name_byte b
