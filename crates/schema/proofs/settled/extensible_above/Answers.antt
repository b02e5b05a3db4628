use Rattle.std.proofs.lemmas.Grind.{common_steps}
use Rattle.std.proofs.Common.{arith}
use Rattle.schema.proofs.settled.extensible_above.Goals as goal

pub at-requires : goal.at-requires
at-requires c = grind (arith, common_steps)

pub loop-superior-preserved : goal.loop-superior-preserved
loop-superior-preserved c = grind (arith, common_steps)

pub returns : goal.returns
returns c = grind (arith, common_steps)

pub returns-then-at : goal.returns-then-at
returns-then-at c = grind (arith, common_steps)
