use Rattle.std.proofs.Common.{◌≡◌}
use Rattle.std.specs.List.{AllByRecursion}
use Rattle.entries.specs.Entries.{are_single}
use Rattle.entries.specs.StoredEntries.{attributes_of, IsMadeAttribute}
use Rattle.entries.proofs.entry_checks.are_single.Given as goal

abbrev pub invariant-loop-t : goal.invariant-loop-t
invariant-loop-t l = record {
  known : AllByRecursion (IsMadeAttribute l.conf.types) l.t-iterator;
  rest : are_single l.conf.types (attributes_of l.t-iterator) ≡ are_single l.conf.types (attributes_of l.attrs.entries);
}
