use Rattle.std.proofs.Common.{◌≡◌, ◌++◌, drop, map}
use Rattle.checks.specs.LostNames.{lost_at, quoted_names}
use Rattle.checks.proofs.lost_names.put_quoted.Given as goal

abbrev pub invariant-loop-piece : goal.invariant-loop-piece
invariant-loop-piece l = l.lost.items ++ lost_at l.line (quoted_names (map (λ p. p.now) (drop l.piece-index l.pieces)))
    ≡ l.fn.lost.items ++ lost_at l.line (quoted_names (map (λ p. p.now) l.pieces))
