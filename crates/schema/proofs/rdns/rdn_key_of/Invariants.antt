use Rattle.std.proofs.Common.{◌≡◌, [], drop}
use Rattle.schema.specs.Rdns.{key_from}
use Rattle.schema.specs.inner.Keys.{AreKnown}
use Rattle.schema.proofs.rdns.rdn_key_of.Given as goal

abbrev pub invariant-loop-t : goal.invariant-loop-t
invariant-loop-t l = (key_from l.types l.pairs.items (drop l.t-index l.rdn) ≡ key_from l.types [] l.rdn) × AreKnown l.types (drop l.t-index l.rdn)
