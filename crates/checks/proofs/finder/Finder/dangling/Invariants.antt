use Rattle.std.proofs.Common.{◌≡◌, ◌++◌}
use Rattle.std.specs.List.{flat_map, AllByRecursion}
use Rattle.entries.specs.StoredEntries.{IsMade}
use Rattle.tree.specs.Trees.{seen_entries}
use Rattle.checks.specs.EntryValues.{entry_values}
use Rattle.checks.specs.References.{dangling}
use Rattle.checks.specs.inner.Walks.{dangling_in}
use Rattle.checks.proofs.finder.Finder.dangling.Given as goal

abbrev pub invariant-loop-path : goal.invariant-loop-path
invariant-loop-path l = record {
  made : AllByRecursion (λ e. IsMade l.self.conf.now.types e.1.attrs) l.path-iterator;
  so_far : l.found.items ++ dangling_in l.self (flat_map entry_values (seen_entries l.path-iterator))
      ≡ dangling l.self.conf.now l.self.tree.now.entries l.self.named.now;
}
