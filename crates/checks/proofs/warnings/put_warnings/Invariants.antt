use Rattle.std.proofs.Common.{◌≡◌, ◌++◌, drop}
use Rattle.std.specs.List.{flat_map}
use Rattle.checks.specs.Warnings.{line_warnings}
use Rattle.checks.proofs.warnings.put_warnings.Given as goal

abbrev pub invariant-loop-line : goal.invariant-loop-line
invariant-loop-line l = l.out.items ++ flat_map line_warnings (drop l.line-index l.lines) ≡ l.fn.out.items ++ flat_map line_warnings l.fn.lines
