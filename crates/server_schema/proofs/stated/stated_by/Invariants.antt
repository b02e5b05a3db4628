use Rattle.std.proofs.Common.{◌≡◌, ◌++◌, drop}
use Rattle.server_schema.specs.Stated.{stated_by}
use Rattle.server_schema.proofs.stated.stated_by.Given as goal

abbrev pub invariant-loop-line : goal.invariant-loop-line
invariant-loop-line l = l.found.items ++ stated_by (drop l.line-index l.lines) ≡ stated_by l.lines
