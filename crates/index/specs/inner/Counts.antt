-- How many keys have a number, and which ones got it.
use Rattle.std.specs.Prelude.{◌≡◌, ◌⊎◌, ℕ, Bool, true}
use Rattle.std.specs.FinSet as set
use Rattle.index_text.specs.declared.slot_key.SlotKey.{SlotKey}
use Rattle.index_text.specs.SlotKeys.{SlotKeys}
use Rattle.index_text.specs.Indexes.{Index, members}

-- so many keys have it
pub record HaveNumber (index : Index) (number count : ℕ) : Type 0 where
  pub keys : SlotKeys
  pub are : (p : SlotKey) → set.contains keys p ≡ set.contains (members index p) number
  pub many : set.len keys ≡ count

-- no key but those that pass the test got it, and none got or lost another
abbrev pub InsertsSome : (SlotKey → Bool) → ℕ → Index → Index → Type 0
InsertsSome test number old new = (p : SlotKey) → (members new p ≡ members old p) ⊎ ((test p ≡ true) × (members new p ≡ set.insert (members old p) number))
