-- The ranks of the entries of a tree, at their numbers, for searches by numbers.
use Rattle.std.specs.Prelude.{◌≡◌, ℕ, ◌≤◌, true, false, List}
use Rattle.std.specs.FinMap as finite
use Rattle.std.specs.FinSet.{FinSet}
use Rattle.std.specs.Ordering.{nat_cmp}
use Rattle.id_sets.specs.Lists.{holds}
use Rattle.dense_sets.specs.Keys.{Kept}
use Rattle.paths.specs.Paths.{Path}
use Rattle.tree.specs.Trees.{Tree, number_at}
use Rattle.candidates.specs.declared.numbers.Numbers.{Numbers}
use Rattle.candidates.specs.Numbers.{numbers_contain}
use Rattle.databases.specs.Ranks.{rank_in}
use Rattle.directory.specs.inner.IndexRows.{no_rank, rank_at, AreRanked, numbers_in_order}

-- each entry's number has the entry's rank, and any other number has none
pub record IsRankTable (t : Tree) (ranks : List ℕ) : Type 0 where
  pub ranked : AreRanked ranks 0 (numbers_in_order t)
  pub others : (n : ℕ) → holds (numbers_in_order t) n ≡ false → rank_at ranks n ≡ no_rank
  pub few : finite.len t.entries ≤ no_rank

-- these are ranks of the same entries as those of a tree
pub record AreInOrder (t entries : Tree) (ranks : List ℕ) : Type 0 where
  pub same : entries ≡ t
  pub table : IsRankTable t ranks

-- an entry is one of these by its rank exactly where it is one of those by its number
abbrev pub AreRanksFor : Tree → Numbers Kept → Numbers (FinSet nat_cmp) → Type 0
AreRanksFor t numbers ranks = (p : Path) → finite.contains_key t.entries p ≡ true → numbers_contain (λ s. s) ranks (rank_in t.entries p) ≡ numbers_contain (λ s. s.members) numbers (number_at t p)
