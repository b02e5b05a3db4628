use Rattle.std.proofs.Common.{◌≡◌, ◌++◌, map, take, not}
use Rattle.std.specs.List.{filter, list_any}
use Rattle.std.specs.Str.{bytes_eq}
use Rattle.index_text.specs.SlotKeys.{slot_key}
use Rattle.index.proofs.key_lists.push_missing.Given as goal

abbrev pub invariant-loop-key : goal.invariant-loop-key
invariant-loop-key l = l.found.items ≡ l.fn.found.items ++ map (λ k. slot_key l.slot.0 k.now) (filter (λ k. not (list_any (λ o. bytes_eq o.now k.now) l.others)) (take l.key-index l.keys))
