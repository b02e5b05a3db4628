use Rattle.std.proofs.Common.{◌≡◌, drop}
use Rattle.index_keys.specs.StoredNorms.{stored_norms}
use Rattle.index.proofs.norm_fronts.norms_behind.Given as goal

abbrev pub invariant-loop : goal.invariant-loop
invariant-loop l = record { passed : l.norms ≡ drop l.counter (stored_norms l.conf.types l.entry.attrs l.fn.above) }
