use Rattle.std.proofs.Common.{◌≡◌, ◌++◌}
use Rattle.entries.specs.StoredEntries.{attributes_of}
use Rattle.differences.specs.EntryChanges.{users}
use Rattle.differences.specs.inner.LentAttributes.{all_lent, AreLentKnown, AreStoredKnown}
use Rattle.differences.proofs.attributes.users_of.Given as goal

abbrev pub invariant-loop-t : goal.invariant-loop-t
invariant-loop-t l = record {
  left : AreStoredKnown l.conf.types l.t-iterator;
  known : AreLentKnown l.conf.types l.found.items;
  so_far : all_lent l.found.items ++ users l.conf.types (attributes_of l.t-iterator) ≡ users l.conf.types (attributes_of l.entry.attrs);
}
