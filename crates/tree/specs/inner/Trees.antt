-- What a tree keeps: the number of each path, and each entry in the cell with its number.
use Rattle.std.specs.Prelude.{◌≡◌, ℕ, Bool, List, [], map, T, if◌then◌else◌, take_while, Option, Some, unwrap_or, length, IsSome, IsSomeAnd}
use Rattle.std.specs.List.{AllByRecursion}
use Rattle.std.specs.FinMap as finite
use Rattle.std.specs.FinMap.Entries.{is_sorted}
use Rattle.tree.specs.Cells.{cell, taken}
use Rattle.paths.specs.Paths.{Path, path_cmp, begins}
use Rattle.schema.specs.Conf.{Conf}
use Rattle.tree.specs.Directories.{Entries, IsDirectory}
use Rattle.entries.specs.StoredEntries.{Entry, IsMade}
use Rattle.tree.specs.Trees.{Numbers, Placed, seen_entries}

abbrev pub numbers_of : List (Path × ℕ) → Numbers
numbers_of es = finite.from_sorted es

-- ---- entries in numbered cells

abbrev pub Cells : Type 0
Cells = List (Option Entry)

abbrev pub entry_at : Cells → ℕ → Entry
entry_at cells n = unwrap_or (cell cells n) (record { rdn = []; attrs = [] })

-- paths, each with the entry in the cell with its number
abbrev pub joined : Cells → List (Path × ℕ) → List (Path × Entry)
joined cells es = map (λ e. (e.0, entry_at cells e.1)) es

-- the same, each with its number too
abbrev pub placed : Cells → List (Path × ℕ) → List Placed
placed cells es = map (λ e. record { path = e.0; number = e.1; entry = entry_at cells e.1 }) es

abbrev pub entries_in : Cells → Numbers → Entries
entries_in cells m = finite.from_sorted (seen_entries (joined cells (finite.entries m)))

-- ---- what holds of them

-- each number has an entry in its cell
abbrev pub AreFilled : Cells → List (Path × ℕ) → Type 0
AreFilled cells es = AllByRecursion (λ (e : Path × ℕ). IsSome (cell cells e.1)) es

-- each number has an entry in its cell, made under the configuration, and stands at one path
pub record AreNumbered (conf : Conf) (cells : Cells) (m : Numbers) : Type 0 where
  pub filled : (p : Path) (n : ℕ) → finite.get m p ≡ Some n → IsSomeAnd (cell cells n) (λ e. IsMade conf.types e.attrs)
  pub apart : (p q : Path) (n : ℕ) → finite.get m p ≡ Some n → finite.get m q ≡ Some n → p ≡ q

-- what a tree keeps
pub record IsKept (conf : Conf) (cells : Cells) (es : List (Path × ℕ)) : Type 0 where
  pub sorted : T (is_sorted path_cmp es)
  pub numbered : AreNumbered conf cells (numbers_of es)
  pub counted : taken cells ≡ length es
  pub directory : IsDirectory conf (entries_in cells (numbers_of es))

-- ---- a part of it

-- what an iterator over a path and those below it has left
abbrev pub left_below : Path → Bool → List (Path × Entry) → List (Path × Entry)
left_below base ended rest = if ended then [] else take_while (λ e. begins base e.0) rest

abbrev pub left_placed : Path → Bool → List Placed → List Placed
left_placed base ended rest = if ended then [] else take_while (λ e. begins base e.path) rest
