-- The one spelling of a name that is written.
use Rattle.std.specs.Prelude.{ℕ, ◌+◌, ◌/◌, ◌%◌, Bool, true, false, not, ◌&&◌, ◌||◌, nat_lt, nat_le, ◌==◌, if◌then◌else◌, List, [], ◌∷◌, ◌++◌, map}
use Rattle.std.specs.List.{join_with_byte}
use Rattle.base.specs.Ascii.{space, number_sign, plus_sign, comma, equals_sign, backslash}
use Rattle.dn.specs.Names.{Ava, Rdn, Name}
use Rattle.dn.specs.Spelling.{may_stand}

-- an upper-case hexadecimal digit
abbrev pub digit : ℕ → ℕ
digit d = if nat_lt d 10 then d + 48 else d + 55

abbrev pub is_nothing : List ℕ → Bool
is_nothing [] = true
is_nothing (b ∷ bs) = false

-- a byte outside 32 to 126 is written as a pair of digits
abbrev pub needs_pair : ℕ → Bool
needs_pair b = nat_lt b 32 || nat_le 127 b

-- a byte that stands for itself: a space neither first nor last, a number sign not first
abbrev pub stands : Bool → Bool → ℕ → Bool
stands first last b = may_stand b && not (b == space && (first || last)) && not (b == number_sign && first)

-- wherever it is in a value
abbrev pub always_stands : ℕ → Bool
always_stands b = not (needs_pair b) && stands true true b

-- how a byte of a value is written, by whether it is the first and the last
unfoldable pub written : Bool → Bool → ℕ → List ℕ
written first last b = if needs_pair b then backslash ∷ digit (b / 16) ∷ digit (b % 16) ∷ [] else (if stands first last b then b ∷ [] else backslash ∷ b ∷ [])

unfoldable pub text_from : Bool → List ℕ → List ℕ
text_from first [] = []
text_from first (b ∷ bs) = written first (is_nothing bs) b ++ text_from false bs

abbrev pub value_text : List ℕ → List ℕ
value_text value = text_from true value

abbrev pub ava_text : Ava → List ℕ
ava_text p = p.0 ++ equals_sign ∷ value_text p.1

abbrev pub rdn_text : Rdn → List ℕ
rdn_text r = join_with_byte plus_sign (map ava_text r)

unfoldable pub text_of : Name → List ℕ
text_of n = join_with_byte comma (map rdn_text n)
