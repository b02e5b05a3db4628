use Rattle.std.proofs.lemmas.Grind.{common_steps}
use Rattle.dir_conf.specs.Configurations.{later_line}
use Rattle.std.proofs.Common.{arith}
use Rattle.dir_conf.proofs.later_lines.read_later_line.Goals as goal

pub returns-in_err-suffix_at : goal.returns-in_err-suffix_at
unfolding later_line
returns-in_err-suffix_at c = grind arith

pub returns-then-is_some : goal.returns-then-is_some
unfolding later_line
returns-then-is_some c = grind (arith, common_steps)

pub returns-then-is_first : goal.returns-then-is_first
unfolding later_line
returns-then-is_first c = grind (arith, common_steps)
