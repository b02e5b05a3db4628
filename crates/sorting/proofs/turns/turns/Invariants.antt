use Rattle.std.proofs.Common.{◌≡◌, drop}
use Rattle.sorting.specs.Turns.{turns_from, with_turns, turns}
use Rattle.sorting.proofs.turns.turns.Given as goal

abbrev pub invariant-loop-number : goal.invariant-loop-number
invariant-loop-number l = with_turns l.found.keys (turns_from l.fn.names l.number (drop l.number l.names)) ≡ turns l.fn.names
