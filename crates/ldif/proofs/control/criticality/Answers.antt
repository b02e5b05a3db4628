use Rattle.std.proofs.Common.{arith}
use Rattle.std.proofs.lemmas.Grind.{common_steps}
use Rattle.ldif.specs.Controls.{criticality}
use Rattle.ldif.proofs.control.criticality.Goals as goal

pub returns-then-begins_with_word-2 : goal.returns-then-begins_with_word-2
unfolding criticality
returns-then-begins_with_word-2 c = grind (arith, common_steps)

pub returns-then-begins_with_word : goal.returns-then-begins_with_word
unfolding criticality
returns-then-begins_with_word c = grind (arith, common_steps)
