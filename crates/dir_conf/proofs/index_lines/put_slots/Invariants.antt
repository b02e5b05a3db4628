use Rattle.std.proofs.Common.{◌≡◌, ◌++◌, map, drop}
use Rattle.dir_conf.proofs.index_lines.put_slots.Given as goal

abbrev pub invariant-loop-kind : goal.invariant-loop-kind
invariant-loop-kind l = l.slots.items ++ map (λ k. record { type_id = l.type_id; kind = k }) (drop l.kind-index l.kinds) ≡ l.fn.slots.items ++ map (λ k. record { type_id = l.type_id; kind = k }) l.kinds
