use Rattle.std.proofs.Common.{◌≡◌, drop}
use Rattle.server_schema.specs.Macros.{macros_from, macros_in}
use Rattle.server_schema.proofs.macros.macros_in.Given as goal

abbrev pub invariant-loop-statement : goal.invariant-loop-statement
invariant-loop-statement l = macros_from l.macros.items (drop l.statement-index l.statements) ≡ macros_in l.statements
