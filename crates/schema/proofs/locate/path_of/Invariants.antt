use Rattle.std.proofs.Common.{◌≡◌, drop, map, reverse}
use Rattle.schema.specs.Rdns.{rdn_key_of}
use Rattle.schema.proofs.locate.path_of.Given as goal

abbrev pub invariant-loop-i : goal.invariant-loop-i
invariant-loop-i l = l.path ≡ map (rdn_key_of l.types) (reverse (drop l.i l.rdns))
