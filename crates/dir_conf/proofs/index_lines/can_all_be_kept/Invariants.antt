use Rattle.std.proofs.Common.{◌≡◌, ◌<◌, length, drop}
use Rattle.std.specs.List.{AllByRecursion, list_all}
use Rattle.schema.specs.Slots.{can_be_kept}
use Rattle.dir_conf.proofs.index_lines.can_all_be_kept.Given as goal

abbrev pub invariant-loop-slot : goal.invariant-loop-slot
invariant-loop-slot l =
    (list_all (can_be_kept l.types) (drop l.slot-index l.slots) ≡ list_all (can_be_kept l.types) l.slots)
    × AllByRecursion (λ s. s.type_id < length l.types) (drop l.slot-index l.slots)
