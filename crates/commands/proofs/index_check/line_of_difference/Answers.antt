use Rattle.std.proofs.Common.{◌≡◌, length, arith}
use Rattle.std.proofs.lemmas.Grind.{common_steps}
use Rattle.commands.proofs.Checked.{none_left}
use Rattle.commands.proofs.index_check.line_of_difference.Goals as goal

pub returns-else-not-is_empty : goal.returns-else-not-is_empty
returns-else-not-is_empty c =
    let none : length c.bytes.theirs.now ≡ 0 = grind (arith, common_steps) in
    let last = none_left c.bytes.ours.now c.bytes.theirs.now none in
    omega (arith, last, c.bytes.invariant.so_far)
