use Rattle.index.proofs.Distinct.{GathersAmong}
use Rattle.index.proofs.distinct_keys.sorted_among.Given as goal

abbrev pub invariant-loop-key : goal.invariant-loop-key
invariant-loop-key l = record { gathered : GathersAmong (λ k. k.now) l.others l.found.items l.key-iterator l.fn.keys }
