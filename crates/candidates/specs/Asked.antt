-- The keys that a filter asks postings for. What these show of other keys doesn't matter to it.
use Rattle.std.specs.Prelude.{◌≡◌, ℕ, List, [], ◌∷◌, ◌++◌, map, Option, Some, None}
use Rattle.std.specs.List.{AllByRecursion, flat_map}
use Rattle.schema.specs.declared.slots.IndexKind.{IndexKind}
use Rattle.schema.specs.declared.slots.IndexKind.TheVariants as kinds
use Rattle.filter.specs.declared.assertion.Assertion.{Assertion}
use Rattle.filter.specs.declared.assertion.Assertion.TheVariants.{Equality, GreaterOrEqual, LessOrEqual, Present, Substrings}
use Rattle.filter.specs.declared.prepared_item.PreparedItem.{PreparedItem}
use Rattle.filter.specs.declared.prepared_item.PreparedItem.TheVariants.{Undefined, Asserts}
use Rattle.filter.specs.Prepared.{PreparedContent, PreparedContents, All_of, Any_of, Not_of, Leaf, No_more, And_then}
use Rattle.index_text.specs.declared.slot_key.SlotKey.{SlotKey}
use Rattle.index_keys.specs.EntryKeys.{windows}
use Rattle.index_text.specs.Postings.{Shown}
use Rattle.index_text.specs.SlotKeys.{slot_key}

-- ---- items

-- the kind of the slot that an assertion asks
abbrev pub asked_kind : Assertion → IndexKind
asked_kind (Equality value) = kinds.Equality
asked_kind Present = kinds.Presence
asked_kind (GreaterOrEqual family value) = kinds.Presence
asked_kind (LessOrEqual family value) = kinds.Presence
asked_kind (Substrings pieces) = kinds.Substrings

-- and the keys that it asks it for: the value, the empty key, or each window of the pieces
abbrev pub asked_of_slot : Assertion → List (List ℕ)
asked_of_slot (Equality value) = value ∷ []
asked_of_slot Present = [] ∷ []
asked_of_slot (GreaterOrEqual family value) = [] ∷ []
asked_of_slot (LessOrEqual family value) = [] ∷ []
asked_of_slot (Substrings pieces) = flat_map windows pieces.pieces

-- keys under a slot, where there is one
abbrev pub keys_under : Option ℕ → List (List ℕ) → List SlotKey
keys_under None keys = []
keys_under (Some slot) keys = map (slot_key slot) keys

-- by the slots that there are, as for filters
abbrev pub item_keys : (ℕ → IndexKind → Option ℕ) → PreparedItem → List SlotKey
item_keys slot_of Undefined = []
item_keys slot_of (Asserts t types assertion) = keys_under (slot_of t (asked_kind assertion)) (asked_of_slot assertion)

-- ---- filters

-- those of its items, in their order
abbrev mutual
  pub asked_keys : (ℕ → IndexKind → Option ℕ) → PreparedContent → List SlotKey
  asked_keys slot_of (All_of operands) = asked_keys_each slot_of operands
  asked_keys slot_of (Any_of operands) = asked_keys_each slot_of operands
  asked_keys slot_of (Not_of operand) = asked_keys slot_of operand
  asked_keys slot_of (Leaf item) = item_keys slot_of item

  pub asked_keys_each : (ℕ → IndexKind → Option ℕ) → PreparedContents → List SlotKey
  asked_keys_each slot_of No_more = []
  asked_keys_each slot_of (And_then first rest) = asked_keys slot_of first ++ asked_keys_each slot_of rest

-- ---- what is shown of them

-- the same slots
abbrev pub HaveSameSlots : Shown → Shown → Type 0
HaveSameSlots a b = (t : ℕ) (kind : IndexKind) → a.slot_of t kind ≡ b.slot_of t kind

-- the same members of these keys
abbrev pub ShowAlike : Shown → Shown → List SlotKey → Type 0
ShowAlike a b keys = AllByRecursion (λ k. a.members k.slot.0 k.key ≡ b.members k.slot.0 k.key) keys
