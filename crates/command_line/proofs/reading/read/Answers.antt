use Rattle.std.proofs.Common.{arith}
use Rattle.std.proofs.lemmas.Grind.{common_steps}
use Rattle.command_line.proofs.reading.read.Goals as goal

pub returns-clause-help : goal.returns-clause-help
returns-clause-help g c = grind (arith, common_steps)

pub returns-then-words-le1-clause-asked : goal.returns-then-words-le1-clause-asked
returns-then-words-le1-clause-asked g c = grind (arith, common_steps)
