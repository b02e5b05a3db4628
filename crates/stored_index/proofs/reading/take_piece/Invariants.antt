use Rattle.std.proofs.Common.{◌≡◌, ℕ, List, [], ◌++◌, length}
use Rattle.stored_index.specs.inner.Drafts.{Reading, Awaits}
use Rattle.stored_index.proofs.reading.take_piece.Given as goal

abbrev pub invariant-loop-line : goal.invariant-loop-line
invariant-loop-line l =
    (l.draft.given ≡ l.fn.draft.given) × ((W : List ℕ → Reading) → Awaits W l.fn.draft l.fn.held.items [] → Awaits (λ text. W (l.piece ++ text)) l.draft l.held.items l.rest)

abbrev pub decreases-loop-line : goal.decreases-loop-line
decreases-loop-line l = length l.rest
