use Rattle.std.proofs.Common.{◌≡◌, ◌++◌, drop}
use Rattle.differences.specs.inner.LentAttributes.{all_lent}
use Rattle.differences.specs.inner.RecordTexts.{lines_text}
use Rattle.differences.proofs.records.put_lines.Given as goal

abbrev pub invariant-loop-i : goal.invariant-loop-i
invariant-loop-i l = l.out.items ++ lines_text l.conf.types (drop l.i (all_lent l.attrs)) ≡ l.fn.out.items ++ lines_text l.conf.types (all_lent l.attrs)
