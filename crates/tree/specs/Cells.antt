-- Values in numbered cells.
use Rattle.std.specs.Prelude.{◌≡◌, ◌≢◌, ℕ, ◌<◌, List, Option, is_some, IsSome, count_by, slice_index_or, None, refl}
use Rattle.std.specs.Coded.{Coded, code_by, coded×, coded_ℕ, coded_list, coded_option}

-- the value in each cell from 0 on, if it has one; the number that the next value gets; and how many values fit without memory
pub record Cells (T : Type 0) : Type 0 where
  pub cells : List (Option T)
  pub next : ℕ
  pub capacity : ℕ

abbrev pub cells_code : {T : Type 0} → Coded T → Coded (Cells T)
cells_code {T} code =
    code_by
    (List (Option T) × (ℕ × ℕ))
    (coded× (coded_list (coded_option code)) (coded× coded_ℕ coded_ℕ))
    (λ s. (s.cells, (s.next, s.capacity)))
    (λ p. record { cells = p.0; next = p.1.0; capacity = p.1.1 })
    (λ _. refl)

-- as many values as there are numbers but one, so that the next number is one too
abbrev pub most : ℕ
most = 4294967295

module _ {T : Type 0} where
  -- the value in the cell with this number
  abbrev pub cell : List (Option T) → ℕ → Option T
  cell cells number = slice_index_or cells number None

  abbrev pub IsTaken : List (Option T) → ℕ → Type 0
  IsTaken cells number = IsSome (cell cells number)

  -- how many cells have a value
  abbrev pub taken : List (Option T) → ℕ
  taken cells = count_by is_some cells

  -- one more value fits without memory
  abbrev pub HasRoom : Cells T → Type 0
  HasRoom s = taken s.cells < s.capacity

  -- one cell is set to this, and each other one is as it was
  pub record IsSet (old new : List (Option T)) (number : ℕ) (value : Option T) : Type 0 where
    pub at : cell new number ≡ value
    pub others : (other : ℕ) → other ≢ number → cell new other ≡ cell old other
