use Rattle.std.proofs.Common.{◌≡◌, ℕ}
use Rattle.filter.specs.Prepared.{prepared_views}
use Rattle.candidates.specs.Sides.{sides_each}
use Rattle.candidates.specs.inner.OneSide.{all_or_one}
use Rattle.candidates.specs.inner.Held.{hold}
use Rattle.candidates.proofs.Operands.{with_operands}
use Rattle.candidates.proofs.filters.+operands.Given as goal

abbrev pub invariant-operands_on-loop-operand : goal.invariant-operands_on-loop-operand
invariant-operands_on-loop-operand g l =
    (n : ℕ) → with_operands (g.P.Postings.shown l.postings) n l.all l.side l.operands (hold g.P.Set.IdSet.members l.numbers n) l.operand-index
    ≡ all_or_one l.all l.side (sides_each (g.P.Postings.shown l.postings) n (prepared_views l.operands))
