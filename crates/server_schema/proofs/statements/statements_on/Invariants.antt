use Rattle.std.proofs.Common.{◌≡◌, ◌++◌, drop}
use Rattle.server_schema.specs.Statements.{statements_on}
use Rattle.server_schema.proofs.statements.statements_on.Given as goal

abbrev pub invariant-loop-line : goal.invariant-loop-line
invariant-loop-line l = l.found.items ++ statements_on (drop l.line-index l.lines) ≡ statements_on l.lines
