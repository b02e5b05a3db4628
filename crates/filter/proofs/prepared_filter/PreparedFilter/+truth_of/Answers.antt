use Rattle.std.proofs.Common.{arith}
use Rattle.std.proofs.lemmas.Grind.{common_steps}
use Rattle.filter.proofs.prepared_filter.PreparedFilter.+truth_of.Goals as goal

pub loop-operand-preserved : goal.loop-operand-preserved
loop-operand-preserved t c = grind (arith, common_steps)

pub loop-operand-2-preserved : goal.loop-operand-2-preserved
loop-operand-2-preserved t c = grind (arith, common_steps)
