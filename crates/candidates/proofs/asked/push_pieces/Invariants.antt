use Rattle.std.proofs.Common.{◌≡◌, ◌++◌, map, drop}
use Rattle.std.specs.List.{flat_map}
use Rattle.index_keys.specs.EntryKeys.{windows}
use Rattle.index_text.specs.SlotKeys.{slot_key}
use Rattle.candidates.proofs.asked.push_pieces.Given as goal

abbrev pub invariant-loop-piece : goal.invariant-loop-piece
invariant-loop-piece l =
    l.keys.items ++ map (slot_key l.slot.0) (flat_map windows (drop l.piece-index l.piece-items)) ≡ l.fn.keys.items ++ map (slot_key l.slot.0) (flat_map windows l.piece-items)
