use Rattle.std.proofs.Common.{◌≡◌, ◌++◌}
use Rattle.std.specs.List.{flat_map, AllByRecursion}
use Rattle.std.specs.FinMap as finite
use Rattle.entries.specs.StoredEntries.{IsMade}
use Rattle.tree.specs.Trees.{seen_entries}
use Rattle.checks.specs.Sharing.{shared, shared_at}
use Rattle.checks.proofs.sharing.shared_values.Given as goal

abbrev pub invariant-loop-path : goal.invariant-loop-path
invariant-loop-path l = record {
  made : AllByRecursion (λ e. IsMade l.tree.conf.types e.1.attrs) l.path-iterator;
  so_far : l.found.items ++ flat_map (shared_at l.tree.conf.types (finite.entries l.tree.entries) l.t) (seen_entries l.path-iterator) ≡ shared l.tree.conf.types l.tree.entries l.t;
}
