use Rattle.std.proofs.Common.{arith}
use Rattle.std.proofs.lemmas.Grind.{common_steps}
use Rattle.matching.proofs.spaces.is_double.Goals as goal

pub returns-else-at-text : goal.returns-else-at-text
returns-else-at-text c = grind (arith, common_steps)

pub returns-then-at-text : goal.returns-then-at-text
returns-then-at-text c = grind (arith, common_steps)
