use Rattle.std.proofs.Common.{arith}
use Rattle.std.proofs.lemmas.Grind.{common_steps}
use Rattle.values.proofs.values_iter.next_in_chunks.Goals as goal

pub loop-next-preserved : goal.loop-next-preserved
loop-next-preserved c = grind (arith, common_steps)

pub returns : goal.returns
returns c = grind (arith, common_steps)

pub loop-next-init : goal.loop-next-init
loop-next-init c = grind (arith, common_steps)
