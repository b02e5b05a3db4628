use Rattle.std.proofs.Common.{arith}
use Rattle.std.proofs.lemmas.Grind.{common_steps}
use Rattle.tree.proofs.cells.Cells.reserve.Goals as goal

pub returns-then-self-len-clause-room : goal.returns-then-self-len-clause-room
returns-then-self-len-clause-room g c = grind (arith, common_steps)
