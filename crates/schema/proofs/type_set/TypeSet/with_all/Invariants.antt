use Rattle.std.proofs.Common.{◌≡◌, ◌||◌, ℕ, drop}
use Rattle.schema.specs.Superclasses.{has_number}
use Rattle.schema.proofs.type_set.TypeSet.with_all.Given as goal

abbrev pub invariant-loop-t : goal.invariant-loop-t
invariant-loop-t l = (n : ℕ) → (has_number (drop l.t-index l.more) n || has_number l.set n) ≡ (has_number l.more n || has_number l.fn.self n)
