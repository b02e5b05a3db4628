use Rattle.std.proofs.Common.{◌≡◌, ◌<◌, drop, length}
use Rattle.std.specs.List.{list_any, AllByRecursion}
use Rattle.schema.specs.inner.Settled.{settled_at}
use Rattle.schema.proofs.settled.extensible_above.Given as goal

abbrev pub invariant-loop-superior : goal.invariant-loop-superior
invariant-loop-superior l = record {
  known : AllByRecursion (λ s. s < length l.above) (drop l.superior-index l.class.superiors);
  rest : list_any (λ s. (settled_at l.above s).extensible) (drop l.superior-index l.class.superiors) ≡ list_any (λ s. (settled_at l.above s).extensible) l.class.superiors;
}
