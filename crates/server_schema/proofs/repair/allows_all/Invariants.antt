use Rattle.std.proofs.Common.{List, ℕ, take}
use Rattle.std.specs.List.{Contains}
use Rattle.server_schema.proofs.repair.allows_all.Given as goal

abbrev pub invariant-loop-name : goal.invariant-loop-name
invariant-loop-name l = (name : List ℕ) → Contains (take l.name-index l.names) name → Contains l.class.may name
