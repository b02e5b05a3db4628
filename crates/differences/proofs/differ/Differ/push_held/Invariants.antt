use Rattle.std.proofs.Common.{◌≡◌, false, []}
use Rattle.std.specs.List.{AllByRecursion}
use Rattle.std.specs.FinMap as finite
use Rattle.entries.specs.StoredEntries.{IsMade}
use Rattle.tree.specs.Trees.{seen_entries}
use Rattle.databases.specs.inner.Dumps.{IsThere}
use Rattle.differences.specs.Obstacles.{is_held}
use Rattle.differences.specs.inner.Walks.{extent_in}
use Rattle.differences.proofs.differ.Differ.push_held.Given as goal

abbrev pub invariant-loop-path : goal.invariant-loop-path
invariant-loop-path l = record {
  made : AllByRecursion (λ e. IsMade l.self.conf.now.types e.1.attrs) l.path-iterator;
  there : AllByRecursion (IsThere l.self.before.now.entries) l.path-iterator;
  so_far : l.found.items ≡ [] → AllByRecursion (λ x. is_held (extent_in l.self) l.self.before.now.entries l.self.after.now.entries x ≡ false) (seen_entries l.path-iterator) → AllByRecursion (λ x. is_held (extent_in l.self) l.self.before.now.entries l.self.after.now.entries x ≡ false) (finite.entries l.self.before.now.entries);
}
