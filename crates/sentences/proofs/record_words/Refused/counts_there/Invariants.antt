use Rattle.sentences.proofs.record_words.Refused.counts_there.Given as goal

abbrev pub invariant-loop-t : goal.invariant-loop-t
invariant-loop-t l = (goal.iterator-loop-t).can_next l.t-iterator × (goal.iterator-loop-t).is_finite l.t-iterator
