-- A window and a rank in one number: 24 bits of the window above 32 bits of the rank.
use Rattle.std.specs.Prelude.{ℕ, ◌/◌, ◌%◌, List, [], ◌∷◌}

-- its bytes, as digits of a number
abbrev pub bytes_in : ℕ → List ℕ
bytes_in key = (key / 256 / 256) ∷ (key / 256 % 256) ∷ (key % 256) ∷ []

abbrev pub window_in : ℕ → List ℕ
window_in number = bytes_in (number / 4294967296)

abbrev pub rank_in : ℕ → ℕ
rank_in number = number % 4294967296
