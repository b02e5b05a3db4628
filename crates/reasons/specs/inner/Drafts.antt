-- Attributes as they are looked up.
use Rattle.std.specs.Prelude.{◌≡◌, ℕ, Bool, true, false, nat_eq, List, take, Option, Some, None}
use Rattle.std.specs.List.{list_any, slice_get}
use Rattle.entries.specs.StoredEntries.{EntryAttribute}

-- whether some attribute is of a type
abbrev pub has_place : ℕ → List EntryAttribute → Bool
has_place t es = list_any (λ a. nat_eq t a.0) es

-- the place of the first attribute of a type, or that there is none
abbrev pub IsPlaceOf : ℕ → List EntryAttribute → Option ℕ → Type 0
IsPlaceOf t es None = has_place t es ≡ false
IsPlaceOf t es (Some place) = (a : EntryAttribute) × (slice_get es place ≡ Some a) × (nat_eq t a.0 ≡ true) × (has_place t (take place es) ≡ false)
