-- Postings: the numbers that an index shows under the keys of its slots.
use Rattle.std.specs.Prelude.{ℕ, List, Option}
use Rattle.std.specs.List.{position}
use Rattle.schema.specs.declared.slots.IndexKind.{IndexKind}
use Rattle.schema.specs.declared.slots.Slot.{Slot}
use Rattle.schema.specs.Slots.{same_slot}
use Rattle.index_text.specs.KeySets.{Members}
use Rattle.index_text.specs.SlotKeys.{slot_key}
use Rattle.index_text.specs.Indexes.{Index, members}

-- the number of the slot for a type and a kind of index, and the members of a key under a slot
pub record Shown : Type 0 where
  pub slot_of : ℕ → IndexKind → Option ℕ
  pub members : ℕ → List ℕ → Members

-- the number of a slot is its place
abbrev pub slot_in : List Slot → ℕ → IndexKind → Option ℕ
slot_in slots t kind = position (same_slot (record { type_id = t; kind = kind })) slots

abbrev pub shown_by : Index → Shown
shown_by index = record { slot_of = slot_in index.conf.slots; members = λ slot key. members index (slot_key slot key) }
