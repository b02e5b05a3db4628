-- How counts are shown.
use Rattle.std.specs.Prelude.{ℕ, ◌%◌, if◌then◌else◌, ◌&&◌, ◌==◌, nat_lt, List, [], ◌∷◌, length}
use Rattle.std.specs.Fmt.{decimal}

-- digits in groups of three from the right: a comma behind each digit that a whole number of threes follows
unfoldable pub in_threes : List ℕ → List ℕ
in_threes [] = []
in_threes (d ∷ ds) = if nat_lt 0 (length ds) && length ds % 3 == 0 then d ∷ 44 ∷ in_threes ds else d ∷ in_threes ds

-- a number in decimal, so grouped: 5,000
unfoldable pub grouped : ℕ → List ℕ
grouped number = in_threes (decimal number)
