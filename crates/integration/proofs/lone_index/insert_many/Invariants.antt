use Rattle.std.proofs.Common.{◌≡◌}
use Rattle.integration.proofs.lone_index.insert_many.Given as goal

abbrev pub invariant-loop-number : goal.invariant-loop-number
invariant-loop-number l = l.index.conf ≡ l.initial.index.conf
