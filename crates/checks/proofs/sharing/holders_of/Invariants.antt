use Rattle.std.proofs.Common.{◌≡◌, ℕ, List, ◌++◌}
use Rattle.std.specs.List.{AllByRecursion}
use Rattle.std.specs.FinMap as finite
use Rattle.schema.specs.Values.{norm_at}
use Rattle.entries.specs.Entries.{IsAttribute}
use Rattle.entries.specs.StoredEntries.{IsMade, attributes_of}
use Rattle.checks.specs.Sharing.{holders}
use Rattle.checks.specs.inner.Holders.{paths_at}
use Rattle.checks.proofs.Holding.{held}
use Rattle.checks.proofs.sharing.holders_of.Given as goal

abbrev pub invariant-loop-path : goal.invariant-loop-path
invariant-loop-path l = record {
  made : AllByRecursion (λ e. IsMade l.tree.conf.types e.1.attrs) l.path-iterator;
  good : AllByRecursion (λ e. AllByRecursion (IsAttribute l.tree.conf.types) (attributes_of e.1.attrs)) l.path-iterator;
  so_far : (v : List ℕ) → paths_at l.holders (norm_at l.tree.conf.types l.t v) ++ held l.tree.conf.types l.t v l.path-iterator ≡ holders l.tree.conf.types (finite.entries l.tree.entries) l.t v;
}
