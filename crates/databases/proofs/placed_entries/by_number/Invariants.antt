use Rattle.std.proofs.Common.{◌≡◌, map, take}
use Rattle.databases.proofs.placed_entries.by_number.Given as goal

abbrev pub invariant-loop-entry : goal.invariant-loop-entry
invariant-loop-entry l = record { so_far : l.entries.items ≡ map (λ e. e.ranked) (take l.entry-index l.entry-items) }
