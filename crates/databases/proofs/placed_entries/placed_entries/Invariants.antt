use Rattle.std.proofs.Common.{map}
use Rattle.std.specs.List.{AllByRecursion}
use Rattle.entries.specs.StoredEntries.{IsMade}
use Rattle.tree.specs.Trees.{unnumbered}
use Rattle.databases.proofs.RankedEntries.{EntriesSoFar}
use Rattle.databases.proofs.placed_entries.placed_entries.Given as goal

abbrev pub invariant-loop-found : goal.invariant-loop-found
invariant-loop-found l = record {
  made : AllByRecursion (λ e. IsMade l.database.conf.types e.entry.attrs) l.found-iterator;
  taken : AllByRecursion (λ e. IsMade l.database.conf.types e.entry.now.attrs) (map (λ e. e.ranked) l.entries.items);
  so_far : EntriesSoFar l.database.entries (map (λ e. e.ranked) l.entries.items) l.rank (map unnumbered l.found-iterator);
}
