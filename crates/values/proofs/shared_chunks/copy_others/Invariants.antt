use Rattle.std.proofs.Common.{◌≡◌, take}
use Rattle.values.specs.Norms.{but_norm}
use Rattle.values.proofs.shared_chunks.copy_others.Given as goal

abbrev pub invariant-loop-value : goal.invariant-loop-value
invariant-loop-value l = l.others.items ≡ but_norm l.fn.norm (take l.value-index l.value-items)
