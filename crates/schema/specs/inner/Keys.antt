-- RDNs beside what they come to.
use Rattle.std.specs.Prelude.{◌≡◌, ◌<◌, List, map, reverse, length}
use Rattle.std.specs.List.{AllByRecursion}
use Rattle.values.specs.declared.types.AttributeType.{AttributeType}
use Rattle.schema.specs.declared.locate.TypedName.{TypedName}
use Rattle.schema.specs.Rdns.{TypedRdn, rdn_key_of}

-- an RDN whose types are known
abbrev pub AreKnown : List AttributeType → TypedRdn → Type 0
AreKnown types r = AllByRecursion (λ p. p.0 < length types) r

-- the path goes from the root of the tree down
abbrev pub KeysFit : List AttributeType → TypedName → Type 0
KeysFit types x = x.path ≡ map (rdn_key_of types) (reverse x.rdns.items)

-- the RDNs from the suffix down
abbrev pub rdns_down : TypedName → List TypedRdn
rdns_down x = reverse x.rdns.items
