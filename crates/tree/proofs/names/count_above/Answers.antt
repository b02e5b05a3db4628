use Rattle.std.proofs.Common.{arith}
use Rattle.std.proofs.lemmas.Grind.{common_steps}
use Rattle.tree.proofs.names.count_above.Goals as goal

pub loop-count-preserved : goal.loop-count-preserved
loop-count-preserved c = grind (arith, common_steps)

pub loop-count-init : goal.loop-count-init
loop-count-init c = grind (arith, common_steps)
