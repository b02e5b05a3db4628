use Rattle.std.proofs.Common.{◌≡◌, ◌&&◌, ℕ, List, drop}
use Rattle.candidates.specs.Numbers.{numbers_contain}
use Rattle.candidates.specs.Sides.{has_windows}
use Rattle.candidates.specs.inner.Held.{members_of}
use Rattle.candidates.proofs.items.by_windows.Given as goal

abbrev pub invariant-loop-piece : goal.invariant-loop-piece
invariant-loop-piece g l =
    let have = λ (pieces : List (List ℕ)) (n : ℕ). has_windows (g.P.Postings.shown l.postings) n l.slot.0 pieces in
    (n : ℕ) → (numbers_contain (members_of g.P.Set.IdSet.members) l.left n && have (drop l.piece-index l.piece-items) n) ≡ have l.piece-items n
