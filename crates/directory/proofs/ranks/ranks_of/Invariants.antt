use Rattle.std.proofs.Common.{◌≡◌, ◌++◌, map}
use Rattle.id_sets.specs.Walk.{ids_from}
use Rattle.directory.specs.inner.IndexRows.{rank_at}
use Rattle.directory.proofs.ranks.ranks_of.Given as goal

abbrev pub invariant-loop-number : goal.invariant-loop-number
invariant-loop-number l = l.found.items ++ map (rank_at l.ranks) l.number-iterator ≡ map (rank_at l.fn.ranks) (ids_from l.fn.numbers.members 0)
