use Rattle.std.proofs.Common.{◌≡◌, ◌<◌, ◌||◌, ℕ, drop, length}
use Rattle.std.specs.List.{list_any, AllByRecursion}
use Rattle.schema.specs.Superclasses.{has_number}
use Rattle.schema.specs.inner.Settled.{settled_at}
use Rattle.schema.proofs.settled.required_by.Given as goal

abbrev pub invariant-loop-superior : goal.invariant-loop-superior
invariant-loop-superior l = record {
  known : AllByRecursion (λ s. s < length l.above) (drop l.superior-index l.class.superiors);
  rest : (t : ℕ) → (has_number l.set t || list_any (λ s. has_number (settled_at l.above s).required t) (drop l.superior-index l.class.superiors)) ≡ (has_number l.class.must t || list_any (λ s. has_number (settled_at l.above s).required t) l.class.superiors);
}
