-- Searches in a tree, among entries that are candidates by their numbers there or by their ranks.
use Rattle.std.specs.Prelude.{◌≡◌, ℕ, Bool, List, map}
use Rattle.std.specs.Ordering.{nat_cmp}
use Rattle.std.specs.FinSet.{FinSet}
use Rattle.paths.specs.Paths.{Path}
use Rattle.entries.specs.Entries.{EntryContent}
use Rattle.tree.specs.Trees.{Tree, number_at}
use Rattle.filter_text.specs.Spells.{view}
use Rattle.filter.specs.Made.{Made}
use Rattle.candidates.specs.declared.numbers.Numbers.{Numbers}
use Rattle.candidates.specs.Numbers.{numbers_contain}
use Rattle.paths.specs.declared.scope.Scope.{Scope}
use Rattle.databases.specs.Ranks.{rank_in}
use Rattle.schema.specs.Conf.{Conf}
use Rattle.databases.specs.Found.{AreThere}
use Rattle.databases.specs.Scanned.{scan_among, counted_scan, count_among}
use Rattle.databases.specs.Walks.{Walk, seen, counted, AreMade}

-- whether the entry at a path is a candidate, by its number
abbrev pub by_number : {S : Type 0} → (S → FinSet nat_cmp) → Numbers S → Tree → Path → Bool
by_number members candidates tree p = numbers_contain members candidates (number_at tree p)

-- the same, by its rank
abbrev pub by_rank : {S : Type 0} → (S → FinSet nat_cmp) → Numbers S → Tree → Path → Bool
by_rank members candidates tree p = numbers_contain members candidates (rank_in tree.entries p)

-- the candidates in scope of which the filter is True, in dump order
abbrev pub found : Tree → (Path → Bool) → Path → Scope → Made → List (Path × EntryContent)
found tree is_candidate base scope filter = scan_among tree.conf tree.entries is_candidate base scope (view filter.filter)

-- the same, each with how many are tested up to it
abbrev pub counted_found : Tree → (Path → Bool) → Path → Scope → Made → List (ℕ × (Path × EntryContent))
counted_found tree is_candidate base scope filter = counted_scan tree.conf tree.entries is_candidate base scope (view filter.filter)

-- A walk that begins lends the candidates in scope of which the filter is True. The tree was made with this configuration.
pub record FindsAmong (conf : Conf) (tree : Tree) (is_candidate : Path → Bool) (base : Path) (scope : Scope) (filter : Made) (walk : Walk) : Type 0 where
  -- none was tested so far
  pub start : walk.tested ≡ 0
  -- each comes in dump order, with how many are tested up to it
  pub steps : map counted walk.to_come ≡ counted_found tree is_candidate base scope filter
  pub found : map seen walk.to_come ≡ found tree is_candidate base scope filter
  -- each candidate in scope is tested once
  pub tested : walk.in_the_end ≡ count_among tree.entries is_candidate base scope
  -- a caller can ask for the truth of another filter of each
  pub made : AreMade conf.types walk.to_come
  pub entries : AreThere tree.entries (map seen walk.to_come)
