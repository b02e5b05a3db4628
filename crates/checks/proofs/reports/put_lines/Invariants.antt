use Rattle.std.proofs.Common.{◌≡◌, ◌++◌, true, drop}
use Rattle.checks.specs.Reports.{lines_behind}
use Rattle.checks.proofs.reports.put_lines.Given as goal

abbrev pub invariant-loop-byte : goal.invariant-loop-byte
invariant-loop-byte l = l.out.items ++ lines_behind l.front l.begins (drop l.byte-index l.text) ≡ l.fn.out.items ++ lines_behind l.front true l.fn.text
