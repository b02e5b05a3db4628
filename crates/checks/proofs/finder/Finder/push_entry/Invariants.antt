use Rattle.std.proofs.Common.{◌≡◌, ◌++◌}
use Rattle.std.specs.List.{flat_map, AllByRecursion}
use Rattle.entries.specs.StoredEntries.{attributes_of, IsMadeAttribute}
use Rattle.checks.specs.EntryValues.{attribute_values}
use Rattle.checks.specs.inner.Walks.{dangling_in}
use Rattle.checks.proofs.finder.Finder.push_entry.Given as goal

abbrev pub invariant-loop-t : goal.invariant-loop-t
invariant-loop-t l = record {
  made : AllByRecursion (IsMadeAttribute l.self.conf.now.types) l.t-iterator;
  so_far : l.found.items ++ dangling_in l.self (flat_map (attribute_values l.path) (attributes_of l.t-iterator))
      ≡ l.fn.found.items ++ dangling_in l.self (flat_map (attribute_values l.path) (attributes_of l.entry.attrs));
}
