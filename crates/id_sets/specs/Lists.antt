-- Which numbers stand in a list, and where.
use Rattle.std.specs.Prelude.{◌<◌, ◌≤◌, ℕ, Bool, nat_eq, List, length, slice_index}
use Rattle.std.specs.List.{list_any}

-- whether q is one of the numbers
abbrev pub holds : List ℕ → ℕ → Bool
holds xs q = list_any (λ y. nat_eq y q) xs

-- a number goes to this place of an ascending list: all before it are below the number, and all others above
abbrev pub GoesTo : List ℕ → ℕ → ℕ → Type 0
GoesTo xs q i = (i ≤ length xs) × ((k : ℕ) → k < i → slice_index xs k < q) × ((k : ℕ) → i ≤ k → k < length xs → q < slice_index xs k)
