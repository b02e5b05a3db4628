-- An index: which numbers stand under which keys.
use Rattle.std.specs.Prelude.{ℕ, List, slice_index_or}
use Rattle.std.specs.FinMap as finite
use Rattle.schema.specs.Conf.{Conf}
use Rattle.index_text.specs.declared.slot_key.SlotKey.{SlotKey}
use Rattle.index_text.specs.KeySets.{Members, SetsByKey, members_in}

-- the configuration that an index was made with, the keys of each slot with their members, and how many edits were made
pub record Index : Type 0 where
  pub conf : Conf
  pub slots : List SetsByKey
  pub edits : ℕ

-- the keys of one of these slots, with their members
abbrev pub sets_in : List SetsByKey → ℕ → SetsByKey
sets_in slots slot = slice_index_or slots slot finite.empty

-- the keys of a slot with their members
abbrev pub sets_at : Index → ℕ → SetsByKey
sets_at index slot = sets_in index.slots slot

-- the members of a key: the numbers of the entries that have it
abbrev pub members : Index → SlotKey → Members
members index p = members_in (sets_at index p.slot.0) p.key
