use Rattle.std.proofs.Common.{◌≡◌}
use Rattle.std.specs.List.{AllByRecursion}
use Rattle.entries.specs.StoredEntries.{IsMade}
use Rattle.databases.specs.inner.Dumps.{IsThere}
use Rattle.differences.specs.Obstacles.{stays_below}
use Rattle.differences.specs.inner.Walks.{extent_in}
use Rattle.differences.proofs.Hindered.{stays_next}
use Rattle.differences.proofs.differ.Differ.stays_below.Given as goal

abbrev pub invariant-loop-found : goal.invariant-loop-found
invariant-loop-found l = record {
  made : AllByRecursion (λ e. IsMade l.self.conf.now.types e.1.attrs) l.found-iterator;
  there : AllByRecursion (IsThere l.self.before.now.entries) l.found-iterator;
  rest : stays_next (extent_in l.self) l.path l.found-iterator ≡ stays_below (extent_in l.self) l.self.before.now.entries l.path;
}
