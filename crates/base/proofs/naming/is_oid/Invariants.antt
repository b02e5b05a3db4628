use Rattle.std.proofs.Common.{◌≡◌, drop, true}
use Rattle.base.specs.Naming.{are_groups}
use Rattle.base.proofs.naming.is_oid.Given as goal

abbrev pub invariant-loop-b : goal.invariant-loop-b
invariant-loop-b l = are_groups l.due (drop l.b-index l.text) ≡ are_groups true l.text
