use Rattle.std.proofs.Common.{◌≡◌, ◌+◌, ◌≤◌, length}
use Rattle.commands.specs.Checks.{line_of_difference}
use Rattle.commands.proofs.index_check.line_of_difference.Given as goal

abbrev pub invariant-bytes : goal.invariant-bytes
invariant-bytes l = record {
  so_far : l.line + line_of_difference l.ours l.theirs ≡ 1 + line_of_difference l.fn.text l.fn.other;
  bound : l.line + length l.ours ≤ 1 + length l.fn.text;
}

abbrev pub decreases-bytes : goal.decreases-bytes
decreases-bytes l = length l.ours
