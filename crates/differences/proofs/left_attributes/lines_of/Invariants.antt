use Rattle.std.proofs.Common.{◌≡◌, ◌++◌, drop}
use Rattle.entries.specs.Entries.{lines_of}
use Rattle.differences.specs.inner.LentAttributes.{all_lent}
use Rattle.differences.proofs.left_attributes.lines_of.Given as goal

abbrev pub invariant-loop-i : goal.invariant-loop-i
invariant-loop-i l = l.lines.items ++ lines_of l.conf.types (drop l.i (all_lent l.attrs)) ≡ lines_of l.conf.types (all_lent l.attrs)
