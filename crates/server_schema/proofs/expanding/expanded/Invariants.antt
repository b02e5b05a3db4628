use Rattle.std.proofs.Common.{◌≡◌, ◌++◌, drop}
use Rattle.server_schema.specs.Expanding.{expanded_from, expanded}
use Rattle.server_schema.proofs.expanding.expanded.Given as goal

abbrev pub invariant-loop-b : goal.invariant-loop-b
invariant-loop-b l = l.out.items ++ expanded_from l.macros l.due l.word.items (drop l.b-index l.text) ≡ expanded l.macros l.text
