use Rattle.std.proofs.Common.{◌≡◌}
use Rattle.integration.proofs.lone_index.insert_all.Given as goal

abbrev pub invariant-loop-row : goal.invariant-loop-row
invariant-loop-row l = l.index.conf ≡ l.initial.index.conf
