use Rattle.std.specs.List.{AllByRecursion}
use Rattle.entries.specs.StoredEntries.{IsMadeAttribute}
use Rattle.differences.proofs.obstacles.barred_type.Given as goal

abbrev pub invariant-loop-t : goal.invariant-loop-t
invariant-loop-t l = AllByRecursion (IsMadeAttribute l.conf.types) l.t-iterator
