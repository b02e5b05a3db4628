use Rattle.std.proofs.Common.{◌≡◌, ◌++◌, map}
use Rattle.entries.specs.StoredEntries.{raws}
use Rattle.suffixes.specs.MovedValues.{moved_value}
use Rattle.suffixes.specs.inner.Lines.{attribute_avas}
use Rattle.suffixes.proofs.name_values.NameMover.put_moved.Given as goal

abbrev pub invariant-loop-value : goal.invariant-loop-value
invariant-loop-value l = record {
  can : (goal.iterator-loop-value).can_next l.value-iterator × (goal.iterator-loop-value).is_finite l.value-iterator;
  so_far : l.avas.items ++ attribute_avas (l.t, map (moved_value l.self.conf.now l.self.name.now) (raws l.value-iterator))
      ≡ l.fn.avas.items ++ attribute_avas (l.t, map (moved_value l.self.conf.now l.self.name.now) (raws l.values));
}
