use Rattle.std.proofs.Common.{◌≡◌, drop}
use Rattle.schema.specs.TypeRules.{has_twin}
use Rattle.dir_conf.proofs.Twins.{twin_left}
use Rattle.dir_conf.proofs.type_lines.has_twin.Given as goal

abbrev pub invariant-loop-name : goal.invariant-loop-name
invariant-loop-name l = twin_left l.seen (drop l.name-index l.names) ≡ has_twin l.names
