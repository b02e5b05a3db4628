-- What a sentence is.
use Rattle.std.specs.Prelude.{◌≡◌, ◌≤◌, ℕ, ◌∷◌, [], Bool, true, false, List, length, not, ◌&&◌, ◌||◌, nat_eq, nat_lt}
use Rattle.std.specs.List.{list_all}

-- a byte that a terminal shows: no control character
abbrev pub is_shown : ℕ → Bool
is_shown byte = not (nat_lt byte 32 || nat_eq byte 127)

-- no byte is a control character, so there is no line feed among them, and no escape
abbrev pub IsShown : List ℕ → Type 0
IsShown bytes = list_all is_shown bytes ≡ true

-- the last byte is a line feed, and each before it is shown
abbrev pub is_line : List ℕ → Bool
is_line [] = false
is_line (byte ∷ []) = nat_eq byte 10
is_line (byte ∷ follower ∷ rest) = is_shown byte && is_line (follower ∷ rest)

-- one line of shown bytes
abbrev pub IsLine : List ℕ → Type 0
IsLine bytes = is_line bytes ≡ true

-- two spaces, and a line behind them
abbrev pub is_sentence : List ℕ → Bool
is_sentence [] = false
is_sentence (first ∷ []) = false
is_sentence (first ∷ second ∷ rest) = nat_eq first 32 && (nat_eq second 32 && is_line rest)

-- one line of shown bytes behind two spaces, and at most 400 bytes in all
pub record IsSentence (bytes : List ℕ) : Type 0 where
  pub line : is_sentence bytes ≡ true
  pub short : length bytes ≤ 400
