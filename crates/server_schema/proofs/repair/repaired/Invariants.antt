use Rattle.std.proofs.Common.{◌≡◌}
use Rattle.server_schema.specs.Repairs.{IsRepaired}
use Rattle.server_schema.proofs.repair.repaired.Given as goal

abbrev pub invariant-loop : goal.invariant-loop
invariant-loop l = (l.current.sort ≡ l.sort) × IsRepaired l.sort l.fn.definition.text l.current.text
