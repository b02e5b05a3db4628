use Rattle.std.proofs.Common.{take}
use Rattle.sorting.specs.inner.Numbers.{AreLastNumbers}
use Rattle.sorting.proofs.turns.last_numbers.Given as goal

abbrev pub invariant-loop-number : goal.invariant-loop-number
invariant-loop-number l = AreLastNumbers (take l.number l.names) l.numbers
