use Rattle.std.proofs.Common.{◌≡◌, ◌∷◌, ◌++◌, drop}
use Rattle.std.specs.List.{flat_map}
use Rattle.dn.specs.Writing.{rdn_text}
use Rattle.dn.proofs.write.put_more_rdns.Given as goal

abbrev pub invariant-loop-rdn : goal.invariant-loop-rdn
invariant-loop-rdn l = l.out.items ++ flat_map (λ r. 44 ∷ rdn_text r) (drop l.rdn-index l.rdns) ≡ l.fn.out.items ++ flat_map (λ r. 44 ∷ rdn_text r) l.rdns
