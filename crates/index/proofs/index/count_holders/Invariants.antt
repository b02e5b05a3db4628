use Rattle.std.proofs.Common.{◌≡◌, ◌+◌, length, filter}
use Rattle.index.proofs.Edits.{has_number}
use Rattle.index.proofs.index.count_holders.Given as goal

abbrev pub invariant-loop-row : goal.invariant-loop-row
invariant-loop-row l = l.edits + length (filter (has_number l.number) l.row-iterator) ≡ l.fn.edits + length (filter (has_number l.number) l.fn.rows)
