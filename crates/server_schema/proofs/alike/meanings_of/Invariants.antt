use Rattle.std.proofs.Common.{◌≡◌, ◌++◌, drop}
use Rattle.server_schema.specs.Alike.{meanings_of}
use Rattle.server_schema.proofs.alike.meanings_of.Given as goal

abbrev pub invariant-loop-definition : goal.invariant-loop-definition
invariant-loop-definition l = l.found.items ++ meanings_of (drop l.definition-index l.definitions) ≡ meanings_of l.definitions
