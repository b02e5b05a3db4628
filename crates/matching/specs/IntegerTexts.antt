-- Which texts spell a whole number, and which one (RFC 4517, 3.3.16: Integer).
use Rattle.std.specs.Prelude.{◌≡◌, ℕ, ◌+◌, ◌-◌, ◌*◌, ◌^◌, ◌≤◌, ◌⊎◌, List, [], ◌∷◌, length, ℤ, pos, neg_ℤ, ◌≤ℤ◌, ◌<ℤ◌}
use Rattle.std.specs.List.{AllByRecursion}
use Rattle.base.specs.Ascii.{hyphen}

-- `0` to `9`
abbrev pub IsDigit : ℕ → Type 0
IsDigit b = (48 ≤ b) × (b ≤ 57)

-- `1` to `9`
abbrev pub IsLeadingDigit : ℕ → Type 0
IsLeadingDigit b = (49 ≤ b) × (b ≤ 57)

-- a digit alone, or several, of which the first is no zero
abbrev pub IsNumeral : List ℕ → Type 0
IsNumeral [] = ⊥
IsNumeral (d ∷ []) = IsDigit d
IsNumeral (d ∷ e ∷ ds) = IsLeadingDigit d × AllByRecursion IsDigit (e ∷ ds)

-- each digit counts ten times what it would one place to the right
abbrev pub worth : List ℕ → ℕ
worth [] = 0
worth (d ∷ ds) = (d - 48) * 10 ^ length ds + worth ds

abbrev pub SpellsNatural : List ℕ → ℤ → Type 0
SpellsNatural text n = IsNumeral text × (n ≡ pos (worth text))

-- a hyphen, and digits of which the first is no zero
pub record SpellsNegative (text : List ℕ) (n : ℤ) : Type 0 where
  pub first : ℕ
  pub digits : List ℕ
  pub leads : IsLeadingDigit first
  pub follow : AllByRecursion IsDigit digits
  pub text_is : text ≡ hyphen ∷ first ∷ digits
  pub number_is : n ≡ neg_ℤ (pos (worth (first ∷ digits)))

abbrev pub Spells : List ℕ → ℤ → Type 0
Spells text n = SpellsNatural text n ⊎ SpellsNegative text n

-- it has 128 bits, of which one is its sign
abbrev pub IsInRange : ℤ → Type 0
IsInRange n = (neg_ℤ (pos (2 ^ 127)) ≤ℤ n) × (n <ℤ pos (2 ^ 127))
