use Rattle.std.proofs.Common.{◌≡◌}
use Rattle.std.specs.List.{AllByRecursion}
use Rattle.entries.specs.inner.ClassChecks.{may_have_all}
use Rattle.entries.specs.StoredEntries.{attributes_of, IsMadeAttribute}
use Rattle.entries.proofs.class_checks.may_have_all.Given as goal

abbrev pub invariant-loop-t : goal.invariant-loop-t
invariant-loop-t l = record {
  known : AllByRecursion (IsMadeAttribute l.conf.types) l.t-iterator;
  rest : may_have_all l.conf l.named (attributes_of l.t-iterator) ≡ may_have_all l.conf l.named (attributes_of l.attrs.entries);
}
