-- Which text spells which value (RFC 4515, section 3: assertionvalue).
use Rattle.std.specs.Prelude.{◌≡◌, ℕ, ◌+◌, ◌-◌, ◌*◌, ◌==◌, nat_lt, Bool, true, false, Option, Some, None, List, [], ◌∷◌, if◌then◌else◌, ◌⊎◌}
use Rattle.base.specs.Ascii.{left_parenthesis, right_parenthesis, asterisk, backslash}

abbrev pub digit_of : ℕ → Option ℕ
digit_of b =
    if nat_lt b 48 then None
    else (if nat_lt b 58 then Some (b - 48)
    else (if nat_lt b 65 then None
    else (if nat_lt b 71 then Some (b - 55)
    else (if nat_lt b 97 then None
    else (if nat_lt b 103 then Some (b - 87)
    else None)))))

-- a byte that stands for itself: not NUL, `(`, `)`, `*`, `\`
abbrev pub is_raw : ℕ → Bool
is_raw b = if b == 0 then false else (if b == left_parenthesis then false else (if b == right_parenthesis then false else (if b == asterisk then false else (if b == backslash then false else true))))

-- what a byte of a value begins with
abbrev pub is_value_byte : ℕ → Bool
is_value_byte b = if b == backslash then true else is_raw b

-- the text begins with the byte, raw or as `\` and two digits, and goes on with the rest
abbrev pub ByteAt : ℕ → List ℕ → List ℕ → Type 0
ByteAt b text rest = ((text ≡ b ∷ rest) × (is_raw b ≡ true))
    ⊎ ((h : ℕ) × (l : ℕ) × (m : ℕ) × (n : ℕ) × (text ≡ backslash ∷ h ∷ l ∷ rest) × (digit_of h ≡ Some m) × (digit_of l ≡ Some n) × (b ≡ m * 16 + n))

abbrev pub SomeByte : List ℕ → Type 0
SomeByte text = (b : ℕ) × ByteAt b text []

abbrev pub IsValue : List ℕ → List ℕ → Type 0
IsValue [] text = text ≡ []
IsValue (b ∷ value) text = (rest : List ℕ) × ByteAt b text rest × IsValue value rest

abbrev pub SomeValue : List ℕ → Type 0
SomeValue text = (value : List ℕ) × IsValue value text
