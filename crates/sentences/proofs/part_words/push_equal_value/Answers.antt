use Rattle.std.proofs.Common.{arith}
use Rattle.std.proofs.lemmas.Grind.{common_steps}
use Rattle.sentences.proofs.Items.{put_two}
use Rattle.sentences.proofs.part_words.push_equal_value.Goals as goal

pub returns-in_ok-push_str-in-Some : goal.returns-in_ok-push_str-in-Some
returns-in_ok-push_str-in-Some c = rw c.in-Some.is (put_two _ _ _ _ _ _ c.in_ok-push_str-in-Some.ensures c.push_quoted.ensures)

pub returns-in-None : goal.returns-in-None
returns-in-None c = rw c.in-None.is (grind (arith, common_steps))
