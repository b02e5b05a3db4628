-- When a bracket holds: what postings have to show of an entry, and what they allow a filter to be of it then.
use Rattle.std.specs.Prelude.{◌≡◌, ℕ, true, List, Some}
use Rattle.std.specs.FinSet.{contains}
use Rattle.values.specs.declared.types.AttributeType.{AttributeType}
use Rattle.schema.specs.declared.slots.IndexKind.{IndexKind}
use Rattle.entries.specs.Entries.{Attributes}
use Rattle.filter.specs.declared.truth.Truth.{Truth}
use Rattle.filter.specs.declared.truth.Truth.TheVariants.{True, False}
use Rattle.index_text.specs.declared.slot_key.SlotKey.{SlotKey}
use Rattle.index_keys.specs.EntryKeys.{has_key, slot_keys}
use Rattle.index_text.specs.Indexes.{Index, members}
use Rattle.index_text.specs.Postings.{Shown}
use Rattle.candidates.specs.Sides.{Sides}

-- under each slot that there is, the number stands under exactly the keys of the entry
pub record Reflects (shown : Shown) (types : List AttributeType) (n : ℕ) (attrs : Attributes) : Type 0 where
  pub exactly : (t : ℕ) (kind : IndexKind) (slot : ℕ) (key : List ℕ) → shown.slot_of t kind ≡ Some slot
      → contains (shown.members slot key) n ≡ has_key types attrs t kind key

-- the number stands under exactly the keys of the entry
abbrev pub HasKeysOf : Index → ℕ → Attributes → Type 0
HasKeysOf x n attrs = (k : SlotKey) → contains (members x k) n ≡ contains (slot_keys x.conf attrs) k

-- what is True may be True, and what is False may be False; of what is Undefined nothing is asked
pub record Allows (t : Truth) (s : Sides) : Type 0 where
  pub if_true : t ≡ True → s.may ≡ true
  pub if_false : t ≡ False → s.may_not ≡ true
