use Rattle.std.proofs.Common.{arith}
use Rattle.std.proofs.lemmas.Grind.{common_steps}
use Rattle.matching.proofs.substrings.after_first.Goals as goal

pub overflow_add-at : goal.overflow_add-at
overflow_add-at c = omega (arith, c.in_ok-at.ensures.1.fits)

pub returns : goal.returns
returns c = grind (arith, common_steps)
