use Rattle.std.proofs.Common.{◌≡◌, ◌-◌, take}
use Rattle.std.specs.List.{sum_by}
use Rattle.ldif.specs.PartLines.{block_len}
use Rattle.ldif.proofs.parts.block_end.Given as goal

abbrev pub invariant-loop-other : goal.invariant-loop-other
invariant-loop-other l = l.at ≡ l.initial.at - sum_by block_len (take l.other-index l.others)
