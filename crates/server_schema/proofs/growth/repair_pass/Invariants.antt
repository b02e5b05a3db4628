use Rattle.std.proofs.Common.{◌≡◌, ◌++◌, drop}
use Rattle.server_schema.specs.Growth.{Grows, Marks, definitions_of_all}
use Rattle.server_schema.proofs.growth.repair_pass.Given as goal

abbrev pub invariant-loop-candidate : goal.invariant-loop-candidate
invariant-loop-candidate l =
    (definitions_of_all l.left.items ++ definitions_of_all (drop l.candidate-index l.candidates) ≡ definitions_of_all l.candidates)
    × Grows l.fn.text.items (definitions_of_all l.candidates) l.text.items (definitions_of_all l.candidates) l.grew
    × Marks l.candidates l.left.items l.grew
