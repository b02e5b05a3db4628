-- Keys of few bytes, as they lie in a map: with zeros behind them, and their number at the end.
use Rattle.std.specs.Prelude.{◌≡◌, ℕ, ◌+◌, ◌-◌, ◌*◌, ◌<◌, nat_lt, zero, suc, Bool, List, [], ◌∷◌, length, take, slice_index_or}

-- four bytes as one number, the first of them as the highest
pub record IsNumberOf (number : ℕ) (bytes : List ℕ) : Type 0 where
  pub first : ℕ
  pub second : ℕ
  pub third : ℕ
  pub fourth : ℕ
  pub are : bytes ≡ first ∷ second ∷ third ∷ fourth ∷ []
  pub second_small : second < 256
  pub third_small : third < 256
  pub fourth_small : fourth < 256
  pub sum : number ≡ first * 16777216 + second * 65536 + third * 256 + fourth

-- bytes in so much room, with zeros behind them, and a mark at the end
abbrev pub pad : ℕ → ℕ → List ℕ → List ℕ
pad zero mark xs = mark ∷ []
pad (suc room) mark [] = 0 ∷ pad room mark []
pad (suc room) mark (x ∷ xs) = x ∷ pad room mark xs

-- the mark is how many they are
abbrev pub padded : ℕ → List ℕ → List ℕ
padded room xs = pad room (length xs) xs

-- the bytes that so many bytes have in front, as many as the last one says
abbrev pub key_in : ℕ → List ℕ → List ℕ
key_in n bytes = take (slice_index_or bytes (n - 1) 0) bytes

-- whether a key and the number of its bytes have room in so many
abbrev pub fits : ℕ → List ℕ → Bool
fits n key = nat_lt (length key) n
