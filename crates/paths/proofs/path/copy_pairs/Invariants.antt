use Rattle.std.proofs.Common.{◌≡◌, take}
use Rattle.paths.proofs.path.copy_pairs.Given as goal

abbrev pub invariant-loop-number : goal.invariant-loop-number
invariant-loop-number l = l.copied.items ≡ take l.number-index l.pairs
