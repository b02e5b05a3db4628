use Rattle.std.proofs.Common.{◌≡◌, ◌++◌, drop}
use Rattle.server_schema.specs.Definitions.{lines_of}
use Rattle.server_schema.specs.Growth.{definitions_of_all}
use Rattle.server_schema.proofs.taking.lines_of.Given as goal

abbrev pub invariant-loop-candidate : goal.invariant-loop-candidate
invariant-loop-candidate l = l.lines.items ++ lines_of (definitions_of_all (drop l.candidate-index l.candidates)) ≡ lines_of (definitions_of_all l.candidates)
