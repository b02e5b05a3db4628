-- Candidates that are picked from entries by their ranks.
use Rattle.std.specs.Prelude.{◌≡◌, ℕ, ◌+◌, ◌≤◌, ◌<◌, Bool, true, false, List, [], ◌∷◌, map, if◌then◌else◌, Option, MatchOption, T}
use Rattle.std.specs.Borrow.{Bor}
use Rattle.std.specs.List.{AllByRecursion}
use Rattle.std.specs.FinMap as finite
use Rattle.std.specs.FinMap.Entries.{is_sorted}
use Rattle.std.specs.Ordering.{is_lt}
use Rattle.paths.specs.Paths.{Path, path_cmp, begins}
use Rattle.entries.specs.StoredEntries.{Entry, IsMade}
use Rattle.tree.specs.Trees.{Tree, seen_entries}
use Rattle.databases.specs.inner.Marks.{MarkedEntry}

-- entries that are lent, each with its path
abbrev pub lent_entries : List (Bor Path × Bor Entry) → List (Path × Entry)
lent_entries es = map (λ e. (e.0.now, e.1.now)) es

-- these are the entries of a tree, in the order of the dump
pub record AreInOrder (t : Tree) (es : List (Bor Path × Bor Entry)) : Type 0 where
  pub entries : seen_entries (lent_entries es) ≡ finite.entries t.entries
  pub made : AllByRecursion (λ e. IsMade t.conf.types e.1.now.attrs) es

-- ---- the order of paths

-- they stand in it
abbrev pub Rise : List (Bor Path × Bor Entry) → Type 0
Rise es = T (is_sorted path_cmp (seen_entries (lent_entries es)))

abbrev pub comes_before : Path → Bor Path × Bor Entry → Bool
comes_before p e = is_lt (path_cmp e.0.now p)

abbrev pub is_begun : Path → Bor Path × Bor Entry → Bool
is_begun p e = begins p e.0.now

-- ---- candidates

-- of entries that follow each other in the dump, the first of which has this rank, those whose ranks pass a test
abbrev pub picked : (ℕ → Bool) → ℕ → List (Path × Entry) → List (Path × Entry)
picked test rank [] = []
picked test rank (e ∷ es) = if test rank then e ∷ picked test (rank + 1) es else picked test (rank + 1) es

abbrev pub as_candidate : Path × Entry → MarkedEntry
as_candidate e = record { is_candidate = true; path = e.0; entry = e.1 }

-- no number from here on and below the end passes the test
pub record HasNoneIn (test : ℕ → Bool) (from end : ℕ) : Type 0 where
  pub none : (q : ℕ) → from ≤ q → q < end → test q ≡ false

-- this number does, and none before it
pub record IsFirstOf (test : ℕ → Bool) (from end n : ℕ) : Type 0 where
  pub reached : from ≤ n
  pub within : n < end
  pub passes : test n ≡ true
  pub before : HasNoneIn test from n

-- the first number from here on and below the end that passes the test, or none
abbrev pub IsFirstIn : (ℕ → Bool) → ℕ → ℕ → Option ℕ → Type 0
IsFirstIn test from end first = MatchOption first (HasNoneIn test from end) (λ n. IsFirstOf test from end n)
