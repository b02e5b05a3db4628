use Rattle.std.specs.Prelude.{not}
use Rattle.std.specs.FinSet as set
use Rattle.databases.specs.inner.Picks.{HasNoneIn}
use Rattle.databases.proofs.picked.first_other.Given as goal

abbrev pub invariant-loop-number : goal.invariant-loop-number
invariant-loop-number g l = HasNoneIn (λ n. not (set.contains (g.S.IdSet.members l.members) n)) l.from l.number
