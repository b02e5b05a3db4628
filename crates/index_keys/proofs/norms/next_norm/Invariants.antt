use Rattle.std.proofs.Common.{◌≡◌, ◌++◌, []}
use Rattle.std.specs.List.{AllByRecursion}
use Rattle.entries.specs.StoredEntries.{IsMadeAttribute}
use Rattle.index_keys.specs.inner.NormsLeft.{norms_left}
use Rattle.index_keys.specs.StoredNorms.{stored_norms}
use Rattle.index_keys.proofs.norms.next_norm.Given as goal

abbrev pub invariant-loop-attribute : goal.invariant-loop-attribute
invariant-loop-attribute l = record {
  made : AllByRecursion (IsMadeAttribute l.conf.types) l.attrs;
  none : norms_left l.values ≡ [];
  rest : norms_left l.fn.values ++ stored_norms l.conf.types l.fn.attrs l.above ≡ stored_norms l.conf.types l.attrs l.above;
}
