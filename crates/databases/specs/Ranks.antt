-- Ranks: the places of entries in the dump.
use Rattle.std.specs.Prelude.{ℕ, length, filter}
use Rattle.std.specs.Ordering.{is_lt}
use Rattle.std.specs.FinMap as finite
use Rattle.paths.specs.Paths.{Path, path_cmp}
use Rattle.tree.specs.Directories.{Entries}

-- how many entries come before a path; of an entry that is its place in the dump, from 0 on
abbrev pub rank_in : Entries → Path → ℕ
rank_in d p = length (filter (λ e. is_lt (path_cmp e.0 p)) (finite.entries d))
