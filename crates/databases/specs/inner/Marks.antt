-- Entries that are marked as candidates or not.
use Rattle.std.specs.Prelude.{ℕ, ◌+◌, Bool, List, [], ◌∷◌, refl}
use Rattle.std.specs.Coded.{Coded, code_by, coded×, coded_bool}
use Rattle.paths.specs.Paths.{Path}
use Rattle.entries.specs.StoredEntries.{Entry, entry_code}
use Rattle.tree.specs.Trees.{Placed, path_code}
use Rattle.databases.specs.declared.numbering.Numbering.{Numbering}
use Rattle.databases.specs.declared.numbering.Numbering.TheVariants.{InTree, InDump}

-- the one of the two that candidates have
abbrev pub number_by : Numbering → ℕ → ℕ → ℕ
number_by InTree number rank = number
number_by InDump number rank = rank

-- the rank to count on from; where none is asked for, that is 0
abbrev pub first_rank : Numbering → ℕ → ℕ
first_rank InTree rank = 0
first_rank InDump rank = rank

pub record MarkedEntry : Type 0 where
  pub is_candidate : Bool
  pub path : Path
  pub entry : Entry

abbrev pub marked_code : Coded MarkedEntry
marked_code = code_by (Bool × (Path × Entry)) (coded× coded_bool (coded× path_code entry_code)) (λ e. (e.is_candidate, (e.path, e.entry))) (λ p. record { is_candidate = p.0; path = p.1.0; entry = p.1.1 }) (λ _. refl)

-- entries that follow each other in the dump, the first of which has this rank; a candidate is one whose number passes the test
abbrev pub marked : (ℕ → Bool) → Numbering → ℕ → List Placed → List MarkedEntry
marked test numbering rank [] = []
marked test numbering rank (e ∷ es) = record { is_candidate = test (number_by numbering e.number rank); path = e.path; entry = e.entry } ∷ marked test numbering (rank + 1) es
