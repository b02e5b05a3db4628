use Rattle.dir_conf.specs.RuleNames.{syntax_of}
use Rattle.std.proofs.lemmas.Grind.{common_steps}
use Rattle.std.proofs.Common.{arith}
use Rattle.dir_conf.proofs.rule_names.syntax_of.Goals as goal

pub returns-then-is_number-6 : goal.returns-then-is_number-6
unfolding syntax_of
returns-then-is_number-6 c = grind (arith, common_steps)

pub returns-else-is_number-6 : goal.returns-else-is_number-6
unfolding syntax_of
returns-else-is_number-6 c = grind (arith, common_steps)
