use Rattle.std.proofs.Common.{◌≡◌, drop}
use Rattle.values.specs.Tables.{number_of}
use Rattle.values.specs.inner.Buckets.{entries_at}
use Rattle.values.proofs.name_index.number_at.Given as goal

abbrev pub invariant-loop-place : goal.invariant-loop-place
invariant-loop-place l = number_of (entries_at l.entries (drop l.place-index l.places)) l.name ≡ number_of (entries_at l.entries l.places) l.name
