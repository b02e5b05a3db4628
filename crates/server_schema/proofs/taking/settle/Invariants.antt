use Rattle.std.proofs.Common.{false}
use Rattle.server_schema.specs.Growth.{Grows, AreAmong, definitions_of_all}
use Rattle.server_schema.proofs.taking.settle.Given as goal

abbrev pub invariant-loop : goal.invariant-loop
invariant-loop l = record {
  grows : Grows l.fn.text.items (definitions_of_all l.fn.candidates.items) l.text.items (definitions_of_all l.left.items) false;
  among : AreAmong l.left.items l.fn.candidates.items;
}
