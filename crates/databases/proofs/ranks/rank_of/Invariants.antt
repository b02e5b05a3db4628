use Rattle.databases.proofs.Places.{CountsOn}
use Rattle.databases.proofs.ranks.rank_of.Given as goal

abbrev pub invariant-loop-found : goal.invariant-loop-found
invariant-loop-found l = CountsOn l.tree.entries l.path l.rank l.found-iterator
