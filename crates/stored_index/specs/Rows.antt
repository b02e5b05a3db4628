-- The rows that an index text may have.
use Rattle.std.specs.Prelude.{◌≡◌, ℕ, ◌<◌, List, length, map}
use Rattle.std.specs.List.{AllByRecursion}
use Rattle.std.specs.List.Sorted.{IsStrictlySortedBy}
use Rattle.std.specs.Cmp.Lexicographic.{slice_cmp}
use Rattle.std.specs.Ordering.{nat_cmp}
use Rattle.schema.specs.declared.slots.Slot.{Slot}
use Rattle.index_text.specs.IndexTexts.{Row, Rows}

abbrev pub IsByte : ℕ → Type 0
IsByte b = b < 256

-- a key that one of so many entries has at least, and the ranks of these, each above the one before it
pub record IsRow (entries : ℕ) (row : Row) : Type 0 where
  pub key : AllByRecursion IsByte row.0
  pub some : 0 < length row.1
  pub rising : IsStrictlySortedBy nat_cmp row.1
  pub within : AllByRecursion (λ rank. rank < entries) row.1

abbrev pub key_of : Row → List ℕ
key_of row = row.0

-- each key once, by their bytes
pub record AreSlotRows (entries : ℕ) (rows : List Row) : Type 0 where
  pub each : AllByRecursion (IsRow entries) rows
  pub rising : IsStrictlySortedBy (slice_cmp nat_cmp) (map key_of rows)

abbrev pub slot_of : Slot × List Row → Slot
slot_of s = s.0

-- those of each of these slots
pub record AreRows (due : List Slot) (entries : ℕ) (rows : Rows) : Type 0 where
  pub slots : map slot_of rows ≡ due
  pub each : AllByRecursion (λ s. AreSlotRows entries s.1) rows
