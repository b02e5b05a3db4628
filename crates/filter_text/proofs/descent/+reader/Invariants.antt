use Rattle.std.proofs.Common.{◌≡◌, ◌≤◌, ◌*◌, ◌+◌, ◌++◌, List, ℕ, length, map}
use Rattle.base.specs.Ends.{is_space}
use Rattle.filter_text.specs.Runs.{Closed, Stops}
use Rattle.filter_text.specs.Spells.{FilterContents, contents_then, view, IsSpacedList, IsFilterList}
use Rattle.filter_text.proofs.descent.+reader.Given as goal

abbrev pub decreases-filter_at : goal.decreases-filter_at
decreases-filter_at l = 3 * length l.bytes.now

abbrev pub decreases-comp_at : goal.decreases-comp_at
decreases-comp_at l = 3 * length l.bytes.now + 2

abbrev pub decreases-list_at : goal.decreases-list_at
decreases-list_at l = 3 * length l.bytes.now + 1

-- whatever list follows, the filters so far come before it
abbrev pub invariant-list_at-operands : goal.invariant-list_at-operands
invariant-list_at-operands l =
    record {
      no_longer : length l.rest ≤ length l.fn.bytes;
      stops : Stops is_space l.rest;
      found : (text : List ℕ) × (l.fn.bytes ≡ text ++ l.rest)
          × ((us : FilterContents) (t : List ℕ) → IsFilterList us t → IsSpacedList (contents_then (map view l.operands.items) us) (text ++ t));
      only : (fs : FilterContents) (text more : List ℕ) → IsSpacedList fs text → Closed more → l.fn.bytes ≡ text ++ more
          → (us : FilterContents) × (t : List ℕ) × IsFilterList us t × (l.rest ≡ t ++ more) × (fs ≡ contents_then (map view l.operands.items) us);
    }

abbrev pub decreases-list_at-operands : goal.decreases-list_at-operands
decreases-list_at-operands l = length l.rest
