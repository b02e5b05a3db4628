-- The rows of an index, from the ranks of the entries by their numbers.
use Rattle.std.specs.Prelude.{◌≡◌, ℕ, ◌+◌, List, [], ◌∷◌, map, slice_index_or}
use Rattle.std.specs.List.{flat_map}
use Rattle.std.specs.Ordering.{nat_cmp}
use Rattle.std.specs.FinMap as finite
use Rattle.std.specs.FinSet as set
use Rattle.schema.specs.Conf.{Conf}
use Rattle.tree.specs.Trees.{Tree, number_at}
use Rattle.index_text.specs.Indexes.{Index}
use Rattle.index_text.specs.KeySets.{Members, Row}
use Rattle.index_text.specs.IndexTexts.{ended, key_line}
use Rattle.index_text.specs.IndexTexts as texts
use Rattle.directory.specs.Indexes.{IsIndexOf}

-- a number that no entry has as its rank
abbrev pub no_rank : ℕ
no_rank = 4294967295

-- the rank of the entry with a number, where one has it
abbrev pub rank_at : List ℕ → ℕ → ℕ
rank_at ranks number = slice_index_or ranks number no_rank

-- the entries with these numbers have their ranks, of which this is the first
abbrev pub AreRanked : List ℕ → ℕ → List ℕ → Type 0
AreRanked ranks rank [] = Unit {0}
AreRanked ranks rank (n ∷ ns) = (rank_at ranks n ≡ rank) × AreRanked ranks (rank + 1) ns

-- the numbers of the entries, in the order of the dump
abbrev pub numbers_in_order : Tree → List ℕ
numbers_in_order t = map (λ e. number_at t e.0) (finite.entries t.entries)

-- the numbers of a list, ascending, each once
abbrev pub ascending : List ℕ → List ℕ
ascending ns = finite.keys (finite.from_entries {R = nat_cmp} (map (λ n. (n, tt {0})) ns))

-- the ranks of the entries with these numbers, ascending
abbrev pub ranks_of : List ℕ → Members → List ℕ
ranks_of ranks numbers = ascending (map (rank_at ranks) (set.items numbers))

-- a key with its members, as it is written
abbrev pub ranked_row : List ℕ → Row → texts.Row
ranked_row ranks row = (row.0, ranks_of ranks row.1)

abbrev pub row_text : List ℕ → Row → List ℕ
row_text ranks row = ended (key_line (ranked_row ranks row))

abbrev pub rows_text : List ℕ → List Row → List ℕ
rows_text ranks rows = flat_map (row_text ranks) rows
