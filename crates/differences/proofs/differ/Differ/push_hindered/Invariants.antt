use Rattle.std.proofs.Common.{◌≡◌, false, []}
use Rattle.std.specs.List.{AllByRecursion}
use Rattle.std.specs.FinMap as finite
use Rattle.entries.specs.StoredEntries.{IsMade}
use Rattle.tree.specs.Trees.{seen_entries}
use Rattle.databases.specs.inner.Dumps.{IsThere}
use Rattle.differences.specs.Obstacles.{is_hindered}
use Rattle.differences.specs.inner.Walks.{extent_in}
use Rattle.differences.proofs.differ.Differ.push_hindered.Given as goal

abbrev pub invariant-loop-path : goal.invariant-loop-path
invariant-loop-path l = record {
  names : l.names ≡ l.self.after.now;
  made : AllByRecursion (λ e. IsMade l.self.conf.now.types e.1.attrs) l.path-iterator;
  there : AllByRecursion (IsThere l.self.after.now.entries) l.path-iterator;
  so_far : l.found.items ≡ [] → (l.fn.found.items ≡ []) × (AllByRecursion (λ y. is_hindered l.self.conf.now (extent_in l.self) l.self.before.now.entries y ≡ false) (seen_entries l.path-iterator) → AllByRecursion (λ y. is_hindered l.self.conf.now (extent_in l.self) l.self.before.now.entries y ≡ false) (finite.entries l.self.after.now.entries));
}
