use Rattle.std.proofs.Common.{◌≡◌, ◌++◌, [], map, drop}
use Rattle.dn.specs.Writing.{rdn_text}
use Rattle.schema.specs.Names.{written_rdn}
use Rattle.schema.proofs.Joined.{behind}
use Rattle.schema.proofs.names.put_rdns.Given as goal

abbrev pub invariant-loop-rdn : goal.invariant-loop-rdn
invariant-loop-rdn l = l.out.items ++ behind 44 l.sign (map (λ r. rdn_text (written_rdn l.types r)) (drop l.rdn-index l.rdns))
    ≡ l.fn.out.items ++ behind 44 [] (map (λ r. rdn_text (written_rdn l.types r)) l.rdns)
