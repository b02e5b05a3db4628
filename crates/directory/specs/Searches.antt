-- What a search by the index that is kept with a directory tells.
use Rattle.std.specs.Prelude.{◌≡◌, ℕ, Bool, List, map}
use Rattle.paths.specs.Paths.{Path}
use Rattle.schema.specs.Conf.{Conf}
use Rattle.entries.specs.Entries.{EntryContent}
use Rattle.tree.specs.Trees.{Tree, number_at}
use Rattle.filter.specs.Made.{Made}
use Rattle.index_text.specs.Indexes.{Index}
use Rattle.index_text.specs.Postings.{Shown, shown_by}
use Rattle.candidates.specs.Candidates.{may_be_true}
use Rattle.paths.specs.declared.scope.Scope.{Scope}
use Rattle.filter_text.specs.Spells.{view}
use Rattle.databases.specs.Found.{AreThere}
use Rattle.databases.specs.Scanned.{scan, count_among}
use Rattle.databases.specs.TreeSearches.{counted_found}
use Rattle.databases.specs.Walks.{Walk, seen, counted, AreMade}
use Rattle.directory.specs.Indexes.{IsIndexOf}

-- whether the filter may be True of the entry at a path, by what postings show of its number
abbrev pub may_by_number : Shown → Made → Tree → Path → Bool
may_by_number shown f t p = may_be_true shown f (number_at t p)

-- By what any index of a tree shows, these are the entries that are found, each with how many are tested up to it.
abbrev pub AreSteps : Conf → Tree → Made → Path → Scope → List (ℕ × (Path × EntryContent)) → Type 0
AreSteps conf t f base scope steps = (x : Index) → IsIndexOf conf t.entries t.numbers x → steps ≡ counted_found t (may_by_number (shown_by x) f t) base scope f

-- so many entries are tested
abbrev pub IsTestCount : Conf → Tree → Made → Path → Scope → ℕ → Type 0
IsTestCount conf t f base scope count = (x : Index) → IsIndexOf conf t.entries t.numbers x → count ≡ count_among t.entries (may_by_number (shown_by x) f t) base scope

-- A walk that begins lends the entries in scope of which the filter is True.
pub record FindsByIndex (conf : Conf) (t : Tree) (f : Made) (base : Path) (scope : Scope) (walk : Walk) : Type 0 where
  -- none was tested so far
  pub start : walk.tested ≡ 0
  -- each comes with how many are tested up to it
  pub steps : AreSteps conf t f base scope (map counted walk.to_come)
  -- in dump order
  pub found : map seen walk.to_come ≡ scan conf t.entries base scope (view f.filter)
  pub tested : IsTestCount conf t f base scope walk.in_the_end
  -- a caller can ask for the truth of another filter of each
  pub made : AreMade conf.types walk.to_come
  pub entries : AreThere t.entries (map seen walk.to_come)
