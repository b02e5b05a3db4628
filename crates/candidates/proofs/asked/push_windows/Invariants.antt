use Rattle.std.proofs.Common.{◌≡◌, ◌++◌, map, length}
use Rattle.index_keys.specs.EntryKeys.{windows}
use Rattle.index_text.specs.SlotKeys.{slot_key}
use Rattle.candidates.proofs.asked.push_windows.Given as goal

abbrev pub invariant-loop-first : goal.invariant-loop-first
invariant-loop-first l = l.keys.items ++ map (slot_key l.slot.0) (windows l.rest) ≡ l.fn.keys.items ++ map (slot_key l.slot.0) (windows l.piece)

abbrev pub decreases-loop-first : goal.decreases-loop-first
decreases-loop-first l = length l.rest
