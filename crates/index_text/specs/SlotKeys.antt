-- Keys under slots, in order, and sets of them.
use Rattle.std.specs.Prelude.{ℕ, ◌==◌, Bool, ◌&&◌, List}
use Rattle.std.specs.declared.cmp.Ordering.{Ordering}
use Rattle.std.specs.Ordering.{nat_cmp, ordering_then}
use Rattle.std.specs.Cmp.Lexicographic.{slice_cmp}
use Rattle.std.specs.List.{list_any}
use Rattle.std.specs.Str.{bytes_eq}
use Rattle.std.specs.FinSet as set
use Rattle.index_text.specs.declared.slot_key.SlotKey.{SlotKey}

-- under the slot with this number
abbrev pub slot_key : ℕ → List ℕ → SlotKey
slot_key slot key = record { slot = record { 0 = slot }; key = key }

abbrev pub same_slot_key : SlotKey → SlotKey → Bool
same_slot_key p q = (p.slot.0 == q.slot.0) && bytes_eq p.key q.key

abbrev pub is_among : SlotKey → List SlotKey → Bool
is_among p ps = list_any (λ x. same_slot_key x p) ps

-- by slot, and then by the bytes of the key
abbrev pub slot_key_cmp : SlotKey → SlotKey → Ordering
slot_key_cmp p q = ordering_then (nat_cmp p.slot.0 q.slot.0) (slice_cmp nat_cmp p.key q.key)

abbrev pub SlotKeys : Type 0
SlotKeys = set.FinSet slot_key_cmp
