use Rattle.std.proofs.Common.{◌≡◌, ◌++◌}
use Rattle.entries.specs.StoredEntries.{attributes_of}
use Rattle.differences.specs.EntryChanges.{fixed}
use Rattle.differences.specs.inner.LentAttributes.{all_lent, AreLentKnown, AreStoredKnown}
use Rattle.differences.proofs.left_attributes.push_fixed.Given as goal

abbrev pub invariant-loop-t : goal.invariant-loop-t
invariant-loop-t l = record {
  left : AreStoredKnown l.conf.types l.t-iterator;
  known : AreLentKnown l.conf.types l.found.items;
  so_far : all_lent l.found.items ++ fixed l.conf.types (attributes_of l.t-iterator) ≡ all_lent l.fn.found.items ++ fixed l.conf.types (attributes_of l.entry.attrs);
}
