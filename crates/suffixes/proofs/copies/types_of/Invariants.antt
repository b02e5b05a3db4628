use Rattle.std.proofs.Common.{◌≡◌, take}
use Rattle.suffixes.proofs.copies.types_of.Given as goal

abbrev pub invariant-loop-kind : goal.invariant-loop-kind
invariant-loop-kind l = l.types ≡ take l.kind-index l.kinds
