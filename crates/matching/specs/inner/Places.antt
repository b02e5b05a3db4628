-- Pieces in a text, from the left: what the search for them goes by.
use Rattle.std.specs.Prelude.{◌≡◌, ℕ, ◌+◌, Bool, true, false, List, [], ◌∷◌, ◌++◌, length, drop}
use Rattle.memchr.specs.Find.{OccursAt, NoneBefore, Nowhere}

abbrev pub AtEnd : Bool → List ℕ → Type 0
AtEnd true text = Unit {0}
AtEnd false text = text ≡ []

-- a stretch before each piece, and the end behind them, where a star may stand
abbrev pub InOrder : Bool → List (List ℕ) → List ℕ → Type 0
InOrder back [] text = AtEnd back text
InOrder back (piece ∷ pieces) text = (gap : List ℕ) × (rest : List ℕ) × (text ≡ gap ++ (piece ++ rest)) × InOrder back pieces rest

-- the piece stands at no place of the text
abbrev pub OccursNowhere : List ℕ → List ℕ → Type 0
OccursNowhere text piece = Nowhere (OccursAt text piece) 0 (length text + 1)

-- rest is the text behind the first place of the piece
abbrev pub FollowsFirst : List ℕ → List ℕ → List ℕ → Type 0
FollowsFirst text piece rest = (k : ℕ) × NoneBefore (OccursAt text piece) 0 (length text + 1) k × OccursAt text piece k × (rest ≡ drop (k + length piece) text)
