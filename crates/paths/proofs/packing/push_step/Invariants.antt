use Rattle.std.proofs.Common.{◌≡◌, ◌++◌, take}
use Rattle.std.specs.List.{flat_map}
use Rattle.paths.specs.Packed.{pair_code}
use Rattle.paths.proofs.packing.push_step.Given as goal

abbrev pub invariant-loop-t : goal.invariant-loop-t
invariant-loop-t l = l.out.items ≡ l.initial.out.items ++ flat_map pair_code (take l.t-index l.pairs)
