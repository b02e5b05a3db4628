use Rattle.std.proofs.Common.{◌≡◌, ◌++◌}
use Rattle.std.specs.List.{AllByRecursion}
use Rattle.entries.specs.StoredEntries.{attributes_of, IsMadeAttribute}
use Rattle.suffixes.specs.MovedDirectories.{moved_attributes}
use Rattle.suffixes.specs.inner.Lines.{avas_in}
use Rattle.suffixes.proofs.name_values.NameMover.all_moved.Given as goal

abbrev pub invariant-loop-t : goal.invariant-loop-t
invariant-loop-t l = record {
  made : AllByRecursion (IsMadeAttribute l.self.conf.now.types) l.t-iterator;
  so_far : l.avas.items ++ avas_in (moved_attributes l.self.conf.now l.self.name.now (attributes_of l.t-iterator))
      ≡ avas_in (moved_attributes l.self.conf.now l.self.name.now (attributes_of l.entry.attrs));
}
