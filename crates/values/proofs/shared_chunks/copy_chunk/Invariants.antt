use Rattle.std.proofs.Common.{◌≡◌, take}
use Rattle.values.proofs.shared_chunks.copy_chunk.Given as goal

abbrev pub invariant-loop-value : goal.invariant-loop-value
invariant-loop-value l = l.copied.items ≡ take l.value-index l.value-items
