use Rattle.std.proofs.Common.{◌≡◌, ◌++◌, [], map, drop}
use Rattle.dn.specs.Writing.{ava_text}
use Rattle.schema.specs.Values.{normal_ava}
use Rattle.schema.proofs.Joined.{behind}
use Rattle.schema.proofs.dn_values.put_avas.Given as goal

abbrev pub invariant-loop-pair : goal.invariant-loop-pair
invariant-loop-pair l = l.out.items ++ behind 43 l.sign (map (λ p. ava_text (normal_ava l.types p)) (drop l.pair-index l.pairs))
    ≡ l.fn.out.items ++ behind 43 [] (map (λ p. ava_text (normal_ava l.types p)) l.pairs)
