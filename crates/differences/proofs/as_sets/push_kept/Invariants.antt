use Rattle.std.proofs.Common.{◌≡◌, ◌++◌}
use Rattle.std.specs.List.{AllByRecursion}
use Rattle.entries.specs.StoredEntries.{attributes_of, IsMadeAttribute}
use Rattle.differences.specs.EntryChanges.{users}
use Rattle.differences.specs.AsSets.{kept_attributes}
use Rattle.differences.specs.inner.LentAttributes.{all_lent, AreLentKnown}
use Rattle.differences.proofs.as_sets.push_kept.Given as goal

abbrev pub invariant-loop-t : goal.invariant-loop-t
invariant-loop-t l = record {
  made : AllByRecursion (IsMadeAttribute l.conf.types) l.t-iterator;
  known : AreLentKnown l.conf.types l.found.items;
  so_far : all_lent l.found.items ++ users l.conf.types (kept_attributes l.conf.types (attributes_of l.after.attrs) (attributes_of l.t-iterator))
      ≡ all_lent l.fn.found.items ++ users l.conf.types (kept_attributes l.conf.types (attributes_of l.after.attrs) (attributes_of l.before.attrs));
}
