use Rattle.std.proofs.Common.{arith}
use Rattle.std.proofs.lemmas.Grind.{common_steps}
use Rattle.commands.proofs.database.contents.Goals as goal

pub pulls-preserved : goal.pulls-preserved
pulls-preserved g c = grind (arith, common_steps)
