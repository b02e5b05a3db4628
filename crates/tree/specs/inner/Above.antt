-- Paths with the names of the entries there, kept for the entries below them.
use Rattle.std.specs.Prelude.{◌≡◌, ℕ, List, [], ◌∷◌, Option, Some, None}
use Rattle.paths.specs.Paths.{Path}

abbrev pub last_of : List (Path × List ℕ) → Option (Path × List ℕ)
last_of [] = None
last_of (a ∷ []) = Some a
last_of (a ∷ b ∷ rest) = last_of (b ∷ rest)

-- the path is there, and this one
abbrev pub IsFor : Path → Option (Path × List ℕ) → Type 0
IsFor p None = ⊥
IsFor p (Some a) = a.0 ≡ p

abbrev pub name_in : Option (Path × List ℕ) → List ℕ
name_in None = []
name_in (Some a) = a.1
