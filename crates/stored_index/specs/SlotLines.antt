-- The line of a slot: the name that its type is printed by, and a kind.
use Rattle.std.specs.Prelude.{ℕ, Bool, false, not, if◌then◌else◌, List, [], ◌∷◌, Option, Some, None, codes}
use Rattle.std.specs.Str.{bytes_eq}
use Rattle.std.specs.Ordering.{is_lt}
use Rattle.base.specs.Ascii.{space}
use Rattle.values.specs.declared.types.AttributeType.{AttributeType}
use Rattle.values.specs.Types.{type_of, name_of}
use Rattle.schema.specs.declared.slots.IndexKind.{IndexKind}
use Rattle.schema.specs.declared.slots.IndexKind.TheVariants.{Equality, Presence, Substrings}
use Rattle.schema.specs.declared.slots.Slot.{Slot}
use Rattle.schema.specs.Slots.{slot_cmp, same_slot}
use Rattle.index_text.specs.IndexTexts.{kind_name}
use Rattle.stored_index.specs.Cuts.{parts}
use Rattle.stored_index.specs.declared.fault.IndexFaultKind.{IndexFaultKind}
use Rattle.stored_index.specs.declared.fault.IndexFaultKind.TheVariants.{Form, Order}

abbrev pub kind_named : List ℕ → Option IndexKind
kind_named word =
    if bytes_eq word (kind_name Equality) then Some Equality
    else (if bytes_eq word (kind_name Presence) then Some Presence
    else (if bytes_eq word (kind_name Substrings) then Some Substrings else None))

-- it isn't printed by another of its names, nor in another case
abbrev pub if_printed : List AttributeType → List ℕ → Option ℕ → Option ℕ
if_printed types name None = None
if_printed types name (Some t) = if bytes_eq (name_of types t) name then Some t else None

-- the type that is printed by this name
abbrev pub type_printed : List AttributeType → List ℕ → Option ℕ
type_printed types name = if_printed types name (type_of types name)

abbrev pub slot_with : Option ℕ → Option IndexKind → Option Slot
slot_with None kind = None
slot_with (Some t) None = None
slot_with (Some t) (Some kind) = Some (record { type_id = t; kind = kind })

abbrev pub slot_of : List AttributeType → List (List ℕ) → Option Slot
slot_of types [] = None
slot_of types (word ∷ []) = None
slot_of types (word ∷ name ∷ []) = None
slot_of types (word ∷ name ∷ kind ∷ []) = if bytes_eq word (codes "slot") then slot_with (type_printed types name) (kind_named kind) else None
slot_of types (word ∷ name ∷ kind ∷ more ∷ others) = None

-- the slot that a line names, if it can be read
unfoldable pub slot_in : List AttributeType → List ℕ → Option Slot
slot_in types line = slot_of types (parts space line)

-- ---- slots in their order

abbrev pub is_slot : Slot → Option Slot → Bool
is_slot due None = false
is_slot due (Some s) = same_slot s due

-- whether it doesn't come after the one before it
abbrev pub is_passed : Option Slot → Slot → Bool
is_passed None s = false
is_passed (Some before) s = not (is_lt (slot_cmp before s))

abbrev pub fault_by : Option Slot → Option Slot → IndexFaultKind
fault_by before None = Form
fault_by before (Some s) = if is_passed before s then Order else Form

-- what is wrong with a line that isn't the one that is due: a slot must come after the one before it, and only then be the next one
abbrev pub fault_at : List AttributeType → Option Slot → List ℕ → IndexFaultKind
fault_at types before line = fault_by before (slot_in types line)
