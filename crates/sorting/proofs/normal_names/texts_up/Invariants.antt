use Rattle.std.proofs.Common.{◌≡◌, ◌++◌, drop}
use Rattle.sorting.specs.NormalNames.{texts_up}
use Rattle.sorting.proofs.normal_names.texts_up.Given as goal

abbrev pub invariant-loop-index : goal.invariant-loop-index
invariant-loop-index l = l.texts ++ texts_up (drop l.index l.rdns) ≡ texts_up l.fn.rdns
