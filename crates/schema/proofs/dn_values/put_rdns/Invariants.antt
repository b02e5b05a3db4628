use Rattle.std.proofs.Common.{◌≡◌, ◌++◌, [], map, drop}
use Rattle.std.specs.List.{AllByRecursion}
use Rattle.dn.specs.Writing.{rdn_text}
use Rattle.schema.specs.Values.{normal_rdn}
use Rattle.schema.specs.inner.Keys.{AreKnown}
use Rattle.schema.proofs.Joined.{behind}
use Rattle.schema.proofs.dn_values.put_rdns.Given as goal

abbrev pub invariant-loop-rdn : goal.invariant-loop-rdn
invariant-loop-rdn l =
    (l.out.items ++ behind 44 l.sign (map (λ r. rdn_text (normal_rdn l.types r)) (drop l.rdn-index l.rdns))
    ≡ l.fn.out.items ++ behind 44 [] (map (λ r. rdn_text (normal_rdn l.types r)) l.rdns))
    × AllByRecursion (AreKnown l.types) (drop l.rdn-index l.rdns)
