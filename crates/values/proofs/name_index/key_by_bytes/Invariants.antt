use Rattle.std.proofs.Common.{◌≡◌, drop}
use Rattle.std.specs.List.{fold}
use Rattle.values.specs.inner.Buckets.{key_with, key_by_bytes}
use Rattle.values.proofs.name_index.key_by_bytes.Given as goal

abbrev pub invariant-loop-b : goal.invariant-loop-b
invariant-loop-b l = fold key_with l.key (drop l.b-index l.name) ≡ key_by_bytes l.name
