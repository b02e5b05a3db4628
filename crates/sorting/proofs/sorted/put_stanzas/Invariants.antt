use Rattle.std.proofs.Common.{◌≡◌, ◌++◌, drop, map}
use Rattle.sorting.specs.Sorted.{joined}
use Rattle.sorting.proofs.sorted.put_stanzas.Given as goal

abbrev pub invariant-loop-index : goal.invariant-loop-index
invariant-loop-index l = l.out.items ++ joined (map (λ p. p.now) (drop l.index l.stanzas)) ≡ l.fn.out.items ++ joined (map (λ p. p.now) l.fn.stanzas)
