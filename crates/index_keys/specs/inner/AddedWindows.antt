-- The windows of a text, put to others.
use Rattle.std.specs.Prelude.{◌≡◌, ℕ, ◌&&◌, ◌||◌, nat_eq, List}
use Rattle.index_keys.specs.EntryKeys.{is_window}
use Rattle.index_keys.specs.RankedKeys.{Ranked, is_among}

-- each window of the text came with the rank, and all else is as it was
abbrev pub AddsWindows : List ℕ → ℕ → List Ranked → List Ranked → Type 0
AddsWindows text rank old new = (q : List ℕ) (n : ℕ) → is_among new q n ≡ (is_among old q n || (nat_eq n rank && is_window text q))
