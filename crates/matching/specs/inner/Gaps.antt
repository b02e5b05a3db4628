-- Spaces: a text that grows word by word, and a text that needs none taken away.
use Rattle.std.specs.Prelude.{ℕ, Bool, true, false, not, ◌&&◌, ◌||◌, if◌then◌else◌, List, [], ◌∷◌, ◌++◌}
use Rattle.base.specs.Ascii.{space}
use Rattle.base.specs.Ends.{is_space}

-- with a space behind it, where it isn't empty and there was a gap
abbrev pub with_gap : List ℕ → Bool → List ℕ
with_gap [] gap = []
with_gap (o ∷ os) gap = if gap then (o ∷ os) ++ space ∷ [] else o ∷ os

-- whether a text ends with no space, and no space follows a space, where one may have come before
abbrev pub is_tidy_after : Bool → List ℕ → Bool
is_tidy_after spaced [] = not spaced
is_tidy_after spaced (b ∷ bs) = if is_space b then not spaced && is_tidy_after true bs else is_tidy_after false bs

-- whether a space follows a space, where one may have come before
abbrev pub has_wide_gap_after : Bool → List ℕ → Bool
has_wide_gap_after spaced [] = false
has_wide_gap_after spaced (b ∷ bs) = (spaced && is_space b) || has_wide_gap_after (is_space b) bs
