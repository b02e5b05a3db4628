use Rattle.std.proofs.Common.{◌≡◌, ◌++◌, drop}
use Rattle.server_schema.specs.Definitions.{of_statements}
use Rattle.server_schema.proofs.definition.of_statements.Given as goal

abbrev pub invariant-loop-statement : goal.invariant-loop-statement
invariant-loop-statement l = l.found.items ++ of_statements l.macros (drop l.statement-index l.statements) ≡ of_statements l.macros l.statements
