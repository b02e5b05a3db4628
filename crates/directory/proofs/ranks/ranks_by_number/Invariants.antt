use Rattle.directory.proofs.RanksByNumber.{RanksSoFar}
use Rattle.directory.proofs.ranks.ranks_by_number.Given as goal

abbrev pub invariant-loop-number : goal.invariant-loop-number
invariant-loop-number l = RanksSoFar l.tree l.ranks.items l.rank l.number-iterator
