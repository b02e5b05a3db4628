use Rattle.std.proofs.Common.{◌≡◌, drop}
use Rattle.std.specs.List.{AllByRecursion}
use Rattle.schema.specs.Rdns.{typed, rdns_from}
use Rattle.schema.specs.inner.Keys.{AreKnown}
use Rattle.schema.proofs.rdns.typed_rdns.Given as goal

-- what was typed, followed by what is made of the rest
abbrev pub invariant-loop-rdn : goal.invariant-loop-rdn
invariant-loop-rdn l = (rdns_from l.types l.rdns.items (drop l.rdn-index l.name) ≡ typed l.types l.name) × AllByRecursion (AreKnown l.types) l.rdns.items
