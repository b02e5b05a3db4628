use Rattle.std.proofs.Common.{◌≡◌}
use Rattle.std.specs.List.{AllByRecursion}
use Rattle.base.specs.Answers.{through}
use Rattle.entries.specs.StoredEntries.{IsMade}
use Rattle.tree.specs.Trees.{seen_entries}
use Rattle.suffixes.specs.MovedDirectories.{move_by, add_moved, moved_directory}
use Rattle.suffixes.specs.inner.Walks.{IsThere}
use Rattle.suffixes.proofs.directories.Mover.directory.Given as goal

abbrev pub invariant-loop-found : goal.invariant-loop-found
invariant-loop-found g l = record {
  names : l.names ≡ l.self.tree.now;
  conf : l.out.conf ≡ l.self.new.now;
  there : AllByRecursion (IsThere l.self.tree.now.entries) l.found-iterator;
  made : AllByRecursion (λ e. IsMade l.self.values.conf.now.types e.1.attrs) l.found-iterator;
  so_far : through (add_moved (move_by l.self.values.conf.now l.self.new.now l.self.values.name.now l.self.tree.now.entries)) l.out.entries (seen_entries l.found-iterator)
      ≡ moved_directory (move_by l.self.values.conf.now l.self.new.now l.self.values.name.now l.self.tree.now.entries);
}
