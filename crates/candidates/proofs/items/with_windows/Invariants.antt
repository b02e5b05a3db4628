use Rattle.std.proofs.Common.{◌≡◌, ◌&&◌, ℕ, List, length}
use Rattle.std.specs.List.{list_all}
use Rattle.index_keys.specs.EntryKeys.{windows}
use Rattle.candidates.specs.Numbers.{numbers_contain}
use Rattle.candidates.specs.Sides.{is_member}
use Rattle.candidates.specs.inner.Held.{members_of}
use Rattle.candidates.proofs.items.with_windows.Given as goal

-- those with the windows that were gone through, and which of them have the windows of the rest
abbrev pub invariant-loop-first : goal.invariant-loop-first
invariant-loop-first g l =
    let in_windows = λ (text : List ℕ) (n : ℕ). list_all (is_member (g.P.Postings.shown l.postings) n l.slot.0) (windows text) in
    (n : ℕ) → (numbers_contain (members_of g.P.Set.IdSet.members) l.left n && in_windows l.rest n) ≡ (numbers_contain (members_of g.P.Set.IdSet.members) l.fn.numbers n && in_windows l.fn.piece n)

abbrev pub decreases-loop-first : goal.decreases-loop-first
decreases-loop-first g l = length l.rest
