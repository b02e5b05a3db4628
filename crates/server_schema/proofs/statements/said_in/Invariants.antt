use Rattle.std.proofs.Common.{◌≡◌, ◌++◌, drop, map}
use Rattle.server_schema.specs.Statements.{in_line}
use Rattle.server_schema.proofs.statements.said_in.Given as goal

abbrev pub invariant-loop-b : goal.invariant-loop-b
invariant-loop-b l = l.said.items ++ map in_line (drop l.b-index l.b-items) ≡ map in_line l.b-items
