use Rattle.std.proofs.Common.{◌≡◌, ◌++◌, [], map, drop}
use Rattle.base.specs.Extends.{Extends}
use Rattle.dn.specs.Writing.{ava_text}
use Rattle.schema.specs.Names.{written_ava}
use Rattle.schema.proofs.Joined.{behind}
use Rattle.schema.proofs.names.put_avas.Given as goal

abbrev pub invariant-loop-ava : goal.invariant-loop-ava
invariant-loop-ava l = record {
  put : l.out.items ++ behind 43 l.sign (map (λ p. ava_text (written_ava l.types p)) (drop l.ava-index l.avas))
      ≡ l.fn.out.items ++ behind 43 [] (map (λ p. ava_text (written_ava l.types p)) l.avas);
  kept : Extends l.fn.out.items l.out.items;
}
