use Rattle.std.proofs.Common.{◌≡◌, ◌++◌, drop, map}
use Rattle.sorting.specs.Sorted.{names_of}
use Rattle.sorting.proofs.sorted.names_of.Given as goal

abbrev pub invariant-loop-stanza : goal.invariant-loop-stanza
invariant-loop-stanza l = l.names.items ++ names_of (map (λ p. p.now) (drop l.stanza-index l.stanzas)) ≡ names_of (map (λ p. p.now) l.fn.stanzas)
