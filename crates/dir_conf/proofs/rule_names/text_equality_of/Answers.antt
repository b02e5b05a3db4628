use Rattle.dir_conf.specs.RuleNames.{text_equality_of}
use Rattle.std.proofs.Common.{arith}
use Rattle.dir_conf.proofs.rule_names.text_equality_of.Goals as goal

pub returns-then-eq_ignore_ascii_case-2 : goal.returns-then-eq_ignore_ascii_case-2
unfolding text_equality_of
returns-then-eq_ignore_ascii_case-2 c = grind arith
