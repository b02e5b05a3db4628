-- How the free cells hang together: each has the number of the next one.
use Rattle.std.specs.Prelude.{◌≡◌, ℕ, zero, suc, ◌+◌, List, map, length, Option, Some, None, is_some, count_by, slice_get}
use Rattle.tree.specs.declared.cells.Cell.{Cell}
use Rattle.tree.specs.declared.cells.Cell.TheVariants.{Free, Taken}

module _ {T : Type 0} where
  abbrev pub value_of : Cell T → Option T
  value_of (Free _) = None
  value_of (Taken value) = Some value

  -- from this number on so many free cells each have the number of the next, and the last has that behind all cells
  abbrev pub IsChain : List (Cell T) → ℕ → ℕ → Type 0
  IsChain cells zero number = number ≡ length cells
  IsChain cells (suc count) number = (next : ℕ) × (slice_get cells number ≡ Some (Free next)) × IsChain cells count next

  -- the taken cells are counted, and the chain has all others
  pub record IsSound (cells : List (Cell T)) (taken next : ℕ) : Type 0 where
    pub counted : taken ≡ count_by is_some (map value_of cells)
    pub free : ℕ
    pub total : taken + free ≡ length cells
    pub linked : IsChain cells free next
