use Rattle.std.proofs.Common.{◌≡◌, take}
use Rattle.std.specs.List.{flat_map}
use Rattle.values.proofs.shared_chunks.SharedChunks.copy.Given as goal

abbrev pub invariant-loop-chunk : goal.invariant-loop-chunk
invariant-loop-chunk l = flat_map (λ r. r.value.items) l.chunks.items ≡ flat_map (λ r. r.value.items) (take l.chunk-index l.chunk-items)
