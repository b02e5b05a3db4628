use Rattle.server_schema.specs.Growth.{Grows, Marks, definitions_of_all}
use Rattle.server_schema.proofs.growth.grow.Given as goal

abbrev pub invariant-loop : goal.invariant-loop
invariant-loop l = record {
  grows : Grows l.fn.text.items (definitions_of_all l.fn.candidates.items) l.text.items (definitions_of_all l.left.items) l.is_changed;
  marks : Marks l.fn.candidates.items l.left.items l.is_changed;
}
