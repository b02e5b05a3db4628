use Rattle.std.proofs.Common.{◌≡◌, ℕ, List, [], ◌++◌, length}
use Rattle.stored_index.specs.inner.FaultLines.{Going}
use Rattle.stored_index.proofs.fault_lines.fault_in_piece.Given as goal

abbrev pub invariant-loop-line : goal.invariant-loop-line
invariant-loop-line l =
    (l.draft.given ≡ l.fn.draft.given) × ((known : List ℕ) → Going known l.fn.draft l.fn.held.items [] l.fn.lines → Going (known ++ l.piece) l.draft l.held.items l.rest l.lines)

abbrev pub decreases-loop-line : goal.decreases-loop-line
decreases-loop-line l = length l.rest
