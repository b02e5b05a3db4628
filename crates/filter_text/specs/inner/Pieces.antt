-- Which text spells which pieces between stars, of which the first and the last may be empty.
use Rattle.std.specs.Prelude.{◌≡◌, ℕ, List, [], ◌∷◌, ◌++◌}
use Rattle.base.specs.Ascii.{asterisk}
use Rattle.filter_text.specs.Runs.{Run, Stops, is_star}
use Rattle.filter_text.specs.Values.{IsValue}

-- stars, as many as there are, and a piece, and so on
abbrev pub IsStarred : List (List ℕ) → List ℕ → Type 0
IsStarred [] text = text ≡ []
IsStarred (piece ∷ pieces) text = (s : List ℕ) × (a : List ℕ) × (rest : List ℕ) × (text ≡ asterisk ∷ (s ++ (a ++ rest))) × Run is_star s
    × Stops is_star (a ++ rest) × IsValue piece a × IsStarred pieces rest

abbrev pub IsPieces : List (List ℕ) → List ℕ → Type 0
IsPieces [] text = ⊥
IsPieces (piece ∷ pieces) text = (a : List ℕ) × (rest : List ℕ) × (text ≡ a ++ rest) × IsValue piece a × IsStarred pieces rest

abbrev pub SomePieces : List ℕ → Type 0
SomePieces text = (pieces : List (List ℕ)) × IsPieces pieces text
