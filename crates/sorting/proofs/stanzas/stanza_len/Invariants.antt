use Rattle.std.proofs.Common.{length}
use Rattle.sorting.specs.inner.Stanzas.{GoesOn}
use Rattle.sorting.proofs.stanzas.stanza_len.Given as goal

abbrev pub invariant-lines : goal.invariant-lines
invariant-lines l = GoesOn l.fn.text l.begun l.rest

abbrev pub decreases-lines : goal.decreases-lines
decreases-lines l = length l.rest
