use Rattle.index.proofs.Distinct.{Gathers}
use Rattle.index.proofs.distinct_keys.sorted.Given as goal

abbrev pub invariant-loop-key : goal.invariant-loop-key
invariant-loop-key l = record { gathered : Gathers (λ k. k.now) l.all.items l.key-iterator l.fn.keys }
