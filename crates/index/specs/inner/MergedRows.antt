-- Rows of two kinds of keys, merged by their bytes.
use Rattle.std.specs.Prelude.{ℕ, Bool, true, false, List, [], ◌∷◌, Option, None, Some, if◌then◌else◌}
use Rattle.std.specs.Borrow.{Bor}
use Rattle.std.specs.Ordering.{nat_cmp, is_lt}
use Rattle.std.specs.Cmp.Lexicographic.{slice_cmp}
use Rattle.dense_sets.specs.declared.key_set.KeySet.{KeySet}
use Rattle.index_text.specs.KeySets.{Row}

abbrev pub is_before : Row → Row → Bool
is_before w o = is_lt (slice_cmp nat_cmp w.0 o.0)

-- a row, and what merge makes of those behind it, put among others
abbrev pub put_among : Row → (List Row → List Row) → List Row → List Row
put_among w merge [] = w ∷ merge []
put_among w merge (o ∷ os) = if is_before w o then w ∷ merge (o ∷ os) else o ∷ put_among w merge os

abbrev pub merged : List Row → List Row → List Row
merged [] os = os
merged (w ∷ ws) os = put_among w (merged ws) os

-- ---- what is still to come of them

abbrev pub row_lent : Bor (List ℕ) × Bor KeySet → Row
row_lent e = (e.0.now, e.1.now.members)

-- a row that was taken, and those behind it
abbrev pub ahead : Option (Bor (List ℕ) × Bor KeySet) → List Row → List Row
ahead None rows = []
ahead (Some e) rows = row_lent e ∷ rows

-- whether the first of two rows comes next
abbrev pub comes_first : Option (Bor (List ℕ) × Bor KeySet) → Option (Bor (List ℕ) × Bor KeySet) → Bool
comes_first None other = false
comes_first (Some row) None = true
comes_first (Some row) (Some other) = is_before (row_lent row) (row_lent other)
