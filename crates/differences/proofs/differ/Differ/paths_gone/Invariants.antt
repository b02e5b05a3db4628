use Rattle.std.proofs.Common.{◌≡◌, ◌++◌}
use Rattle.std.specs.List.{AllByRecursion}
use Rattle.entries.specs.StoredEntries.{IsMade}
use Rattle.tree.specs.Trees.{seen_entries}
use Rattle.databases.specs.inner.Dumps.{IsThere}
use Rattle.differences.specs.inner.Walks.{extent_in, gone_of, gone_in, lent_paths}
use Rattle.differences.proofs.differ.Differ.paths_gone.Given as goal

abbrev pub invariant-loop-path : goal.invariant-loop-path
invariant-loop-path l = record {
  made : AllByRecursion (λ e. IsMade l.self.conf.now.types e.1.attrs) l.path-iterator;
  there : AllByRecursion (IsThere l.self.before.now.entries) l.path-iterator;
  so_far : lent_paths l.gone.items ++ gone_of (extent_in l.self) l.self.after.now.entries (seen_entries l.path-iterator) ≡ gone_in l.self;
}
