-- Candidates by the numbers that they have.
use Rattle.std.specs.Prelude.{Bool}
use Rattle.std.specs.Ordering.{nat_cmp}
use Rattle.std.specs.FinSet.{FinSet}
use Rattle.paths.specs.Paths.{Path}
use Rattle.tree.specs.Trees.{Tree, number_at}
use Rattle.candidates.specs.declared.numbers.Numbers.{Numbers}
use Rattle.candidates.specs.Numbers.{numbers_contain}
use Rattle.databases.specs.declared.numbering.Numbering.{Numbering}
use Rattle.databases.specs.Ranks.{rank_in}
use Rattle.databases.specs.inner.Marks.{number_by}

-- whether the entry at a path is a candidate, by its number or by its rank
abbrev pub by_numbering : {S : Type 0} → (S → FinSet nat_cmp) → Numbering → Numbers S → Tree → Path → Bool
by_numbering members numbering candidates tree p = numbers_contain members candidates (number_by numbering (number_at tree p) (rank_in tree.entries p))
