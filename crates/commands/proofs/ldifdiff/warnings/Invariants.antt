use Rattle.std.proofs.Common.{◌≤◌, length}
use Rattle.commands.proofs.ldifdiff.warnings.Given as goal

abbrev pub invariant-loop-i : goal.invariant-loop-i
invariant-loop-i l = l.i ≤ length l.text.items
