use Rattle.std.proofs.Common.{arith}
use Rattle.std.proofs.lemmas.Grind.{common_steps}
use Rattle.filter_text.proofs.depth.deep_from.Goals as goal

pub loop-place-preserved : goal.loop-place-preserved
loop-place-preserved c = grind (arith, common_steps)

pub returns-then-opened-closed-gt-MOST : goal.returns-then-opened-closed-gt-MOST
returns-then-opened-closed-gt-MOST c = grind (arith, common_steps)

pub returns : goal.returns
returns c = grind (arith, common_steps)
