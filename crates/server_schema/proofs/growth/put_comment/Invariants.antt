use Rattle.std.proofs.Common.{◌≡◌, ◌++◌, ◌∷◌, map, drop}
use Rattle.server_schema.specs.Statements.{in_line}
use Rattle.server_schema.proofs.growth.put_comment.Given as goal

abbrev pub invariant-loop-b : goal.invariant-loop-b
invariant-loop-b l = l.out.items ++ map in_line (drop l.b-index l.comment) ≡ l.fn.out.items ++ 35 ∷ 32 ∷ map in_line l.comment
