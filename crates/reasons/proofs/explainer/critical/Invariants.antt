use Rattle.std.proofs.Common.{◌≡◌, false, take}
use Rattle.tree.specs.Operations.{has_critical}
use Rattle.reasons.proofs.explainer.critical.Given as goal

abbrev pub invariant-loop-index : goal.invariant-loop-index
invariant-loop-index l = has_critical (take l.index l.asked) ≡ false
