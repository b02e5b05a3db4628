-- Texts that are cut where they take too much room.
use Rattle.std.specs.Prelude.{ℕ, zero, suc, ◌-◌, Bool, if◌then◌else◌, ◌&&◌, ◌||◌, ◌==◌, nat_lt, nat_le, List, [], ◌∷◌, ◌++◌, length, take, slice_index, codes}

-- what stands for the rest of a text that is cut
abbrev pub dots : List ℕ
dots = codes ".."

-- pieces one behind the other, and then an end; dots in place of the first piece for which room lacks, and of all behind it
abbrev pub fitting : ℕ → List (List ℕ) → List ℕ → List ℕ
fitting room [] end = end
fitting room (piece ∷ pieces) end = if nat_lt room (length piece) then dots else piece ++ fitting (room - length piece) pieces end

-- a byte of a character other than its first: 10xxxxxx (RFC 3629)
abbrev pub goes_on : ℕ → Bool
goes_on byte = nat_le 128 byte && nat_lt byte 192

-- the last place, of so many from one down, at which a character begins; else the other one
unfoldable pub begin_near : ℕ → ℕ → List ℕ → ℕ → ℕ
begin_near zero place bytes other = other
begin_near (suc places) place bytes other =
    if goes_on (slice_index bytes place) then begin_near places (place - 1) bytes other else place

-- the first bytes, at most so many, that end with a whole character where they are text
unfoldable pub front : ℕ → List ℕ → List ℕ
front most bytes = if nat_le (length bytes) most then bytes else take (begin_near 4 most bytes most) bytes

-- what stands behind them
abbrev pub end_of : ℕ → List ℕ → List ℕ
end_of most bytes = if nat_le (length bytes) most then [] else dots

-- ---- the words of a sentence

-- a place within an escape, as \0A
abbrev pub is_in_escape : List ℕ → ℕ → Bool
is_in_escape words place = slice_index words (place - 1) == 92 || slice_index words (place - 2) == 92

-- a place in the middle of a character or of an escape
abbrev pub is_inside : List ℕ → ℕ → Bool
is_inside words place = nat_lt 0 place && (goes_on (slice_index words place) || is_in_escape words place)

-- the last place, from one down, that isn't inside of anything
unfoldable pub whole_len : List ℕ → ℕ → ℕ
whole_len words zero = 0
whole_len words (suc place) = if is_inside words (suc place) then whole_len words place else suc place

-- words of a sentence as it has room for them: all of them, or the first and dots
unfoldable pub cut_words : List ℕ → List ℕ
cut_words words = if nat_le (length words) 397 then words else take (whole_len words 395) words ++ dots

-- the sentence of these words: behind two spaces, and with a line feed
unfoldable pub sentence_of : List ℕ → List ℕ
sentence_of words = codes "  " ++ cut_words words ++ codes "\n"
