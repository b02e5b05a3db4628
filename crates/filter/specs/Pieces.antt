-- Pieces in a value as a test (RFC 4511, 4.5.1.7.2).
use Rattle.std.specs.Prelude.{ℕ, Bool, true, false, ◌&&◌, ◌||◌, ◌==◌, List, [], ◌∷◌, length, take, drop}
use Rattle.std.specs.Str.{bytes_eq}

abbrev pub is_empty : List ℕ → Bool
is_empty text = length text == 0

-- whether a text, or an end of it, passes the test
abbrev pub at_some_end : (List ℕ → Bool) → List ℕ → Bool
at_some_end test [] = test []
at_some_end test (b ∷ text) = test (b ∷ text) || at_some_end test text

-- whether the piece comes first, and what follows it passes the test
abbrev pub begins_and : List ℕ → (List ℕ → Bool) → List ℕ → Bool
begins_and piece test text = bytes_eq (take (length piece) text) piece && test (drop (length piece) text)

-- whether the pieces stand in a text in order, with anything before each, and behind them where a star stands there
abbrev pub stand_in : Bool → List (List ℕ) → List ℕ → Bool
stand_in back [] text = back || is_empty text
stand_in back (piece ∷ pieces) text = at_some_end (begins_and piece (stand_in back pieces)) text

-- the same, with nothing before the first where no star stands there
abbrev pub fits : Bool → Bool → List (List ℕ) → List ℕ → Bool
fits true back pieces text = stand_in back pieces text
fits false back [] text = is_empty text
fits false back (piece ∷ pieces) text = begins_and piece (stand_in back pieces) text
