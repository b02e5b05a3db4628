use Rattle.std.proofs.Common.{◌≡◌, ◌++◌, map, length}
use Rattle.sorting.specs.Stanzas.{stanzas}
use Rattle.sorting.proofs.stanzas.stanzas.Given as goal

abbrev pub invariant-stanzas : goal.invariant-stanzas
invariant-stanzas l = map (λ p. p.now) l.found.items ++ stanzas l.rest ≡ stanzas l.fn.text

abbrev pub decreases-stanzas : goal.decreases-stanzas
decreases-stanzas l = length l.rest
