use Rattle.std.proofs.Common.{◌≡◌, ◌≤◌, length, take}
use Rattle.base.specs.Ends.{without_end}
use Rattle.base.proofs.ends.without_end.Given as goal

abbrev pub invariant-loop-len : goal.invariant-loop-len
invariant-loop-len l = record { within : l.len ≤ length l.text; same : without_end (take l.len l.text) ≡ without_end l.text }

abbrev pub decreases-loop-len : goal.decreases-loop-len
decreases-loop-len l = l.len
