use Rattle.std.proofs.Common.{◌≡◌, drop}
use Rattle.tree.specs.Operations.{has_critical}
use Rattle.tree.proofs.planner.has_critical.Given as goal

abbrev pub invariant-loop-control : goal.invariant-loop-control
invariant-loop-control l = has_critical (drop l.control-index l.controls) ≡ has_critical l.controls
