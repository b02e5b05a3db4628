use Rattle.std.proofs.Common.{◌≡◌, take}
use Rattle.index_keys.specs.RankedKeys.{joined}
use Rattle.index_keys.proofs.gathering.bytes_of.Given as goal

abbrev pub invariant-loop-numbered : goal.invariant-loop-numbered
invariant-loop-numbered l = record { so_far : l.bytes.items ≡ joined (take l.numbered-index l.norms) }
