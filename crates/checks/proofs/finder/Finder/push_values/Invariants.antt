use Rattle.std.proofs.Common.{◌≡◌, ◌++◌}
use Rattle.entries.specs.StoredEntries.{raws}
use Rattle.checks.specs.EntryValues.{attribute_values}
use Rattle.checks.specs.inner.Walks.{dangling_in}
use Rattle.checks.proofs.finder.Finder.push_values.Given as goal

abbrev pub invariant-loop-value : goal.invariant-loop-value
invariant-loop-value l = record {
  can : (goal.iterator-loop-value).can_next l.value-iterator × (goal.iterator-loop-value).is_finite l.value-iterator;
  so_far : l.found.items ++ dangling_in l.self (attribute_values l.path (l.t, raws l.value-iterator))
      ≡ l.fn.found.items ++ dangling_in l.self (attribute_values l.path (l.t, raws l.values));
}
