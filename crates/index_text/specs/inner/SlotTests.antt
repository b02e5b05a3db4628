-- A test of a slot that may be none.
use Rattle.std.specs.Prelude.{Bool, false, Option, Some, None}
use Rattle.schema.specs.declared.slots.Slot.{Slot}

abbrev pub is_slot_that : (Slot → Bool) → Option Slot → Bool
is_slot_that test None = false
is_slot_that test (Some s) = test s
