use Rattle.std.proofs.Common.{◌++◌, arith}
use Rattle.std.proofs.lemmas.Grind.{common_steps}
use Rattle.databases.specs.IndexTexts.{slots_lines}
use Rattle.databases.proofs.Pieces.{wants_memory_on}
use Rattle.databases.proofs.database.Database.write_all_slots.Goals as goal

pub returns-in_err-entries : goal.returns-in_err-entries
returns-in_err-entries g c = wants_memory_on c.from_residual.result c.from_residual.ensures.1 (g.W.Sink.written c.args.sink.now) (c.args.text.now.items ++ slots_lines c.args.self.now.conf c.args.self.now.entries c.args.self.now.conf.slots) _

pub returns-then-is_empty : goal.returns-then-is_empty
returns-then-is_empty g c = grind (arith, common_steps)
