use Rattle.std.proofs.Common.{◌≡◌, ◌∷◌, ◌++◌, drop}
use Rattle.std.specs.List.{flat_map}
use Rattle.dn.specs.Writing.{ava_text}
use Rattle.dn.proofs.write.put_more_avas.Given as goal

abbrev pub invariant-loop-ava : goal.invariant-loop-ava
invariant-loop-ava l = l.out.items ++ flat_map (λ p. 43 ∷ ava_text p) (drop l.ava-index l.avas) ≡ l.fn.out.items ++ flat_map (λ p. 43 ∷ ava_text p) l.avas
