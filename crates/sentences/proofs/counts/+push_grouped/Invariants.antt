use Rattle.sentences.proofs.counts.+push_grouped.Given as goal

abbrev pub decreases-push_grouped : goal.decreases-push_grouped
decreases-push_grouped l = l.number
