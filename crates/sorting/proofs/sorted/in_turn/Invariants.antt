use Rattle.std.proofs.Common.{◌≡◌, map}
use Rattle.sorting.specs.Sorted.{in_turn}
use Rattle.sorting.proofs.sorted.in_turn.Given as goal

abbrev pub invariant-loop-turn : goal.invariant-loop-turn
invariant-loop-turn l = map (λ p. p.now) l.found.items ≡ in_turn (map (λ p. p.now) l.fn.stanzas) (map (λ t. t.now) l.yielded)
