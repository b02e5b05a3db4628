use Rattle.std.proofs.Common.{◌≡◌, ◌++◌, drop}
use Rattle.matching.specs.Forms.{lower}
use Rattle.schema.proofs.dn_values.put_lower.Given as goal

abbrev pub invariant-loop-b : goal.invariant-loop-b
invariant-loop-b l = l.out.items ++ lower (drop l.b-index l.name) ≡ l.fn.out.items ++ lower l.name
