use Rattle.std.proofs.Common.{◌≡◌, ◌++◌, map}
use Rattle.std.specs.FinMap as finite
use Rattle.std.specs.List.{AllByRecursion}
use Rattle.entries.specs.StoredEntries.{IsMade}
use Rattle.tree.specs.Trees.{unnumbered, seen_entries}
use Rattle.databases.specs.inner.Picks.{lent_entries}
use Rattle.databases.proofs.entries_by_rank.EntriesByRank.of.Given as goal

abbrev pub invariant-loop-found : goal.invariant-loop-found
invariant-loop-found l = record {
  made : AllByRecursion (λ e. IsMade l.tree.conf.types e.entry.attrs) l.found-iterator;
  taken : AllByRecursion (λ e. IsMade l.tree.conf.types e.1.now.attrs) l.entries.items;
  so_far : seen_entries (lent_entries l.entries.items) ++ seen_entries (map unnumbered l.found-iterator) ≡ finite.entries l.tree.entries;
}
