-- Values that several entries have: equal ones by the equality rule of their type (RFC 4517, 4.2), or without a rule the same bytes.
use Rattle.std.specs.Prelude.{◌≡◌, ◌≢◌, ℕ, Bool, true, false, List, [], ◌∷◌, map, filter}
use Rattle.std.specs.List.{flat_map, Contains}
use Rattle.std.specs.Ordering.{eq_by_cmp}
use Rattle.std.specs.FinMap as finite
use Rattle.values.specs.declared.types.AttributeType.{AttributeType}
use Rattle.paths.specs.Paths.{Path, path_cmp}
use Rattle.schema.specs.Values.{are_equal}
use Rattle.entries.specs.Entries.{EntryContent, values_of, has_equal}
use Rattle.tree.specs.Directories.{Entries}
use Rattle.checks.specs.declared.shared_value.SharedValue.{SharedValue}
use Rattle.checks.specs.EntryValues.{IsThere}

-- entries, each at its path
abbrev pub Placed : Type 0
Placed = Path × EntryContent

abbrev pub path_of : Placed → Path
path_of e = e.0

-- whether an entry has a value of a type that equals this one; values of subtypes don't count
abbrev pub has_value : List AttributeType → ℕ → List ℕ → Placed → Bool
has_value types t v e = has_equal types t v (values_of e.1.attrs t)

-- the paths of those of these entries that have such a value, in order
abbrev pub holders : List AttributeType → List Placed → ℕ → List ℕ → List Path
holders types es t v = map path_of (filter (has_value types t v) es)

-- whether these are several, and the first of them is this one
abbrev pub begins_sharing : Path → List Path → Bool
begins_sharing p [] = false
begins_sharing p (q ∷ []) = false
begins_sharing p (q ∷ r ∷ more) = eq_by_cmp path_cmp q p

-- a value with all that have it
abbrev pub shared_value : List AttributeType → List Placed → ℕ → List ℕ → SharedValue
shared_value types es t v = record { value = v; paths = holders types es t v }

-- those values of an entry that it shares with others of these and is the first to have, in its order
abbrev pub shared_at : List AttributeType → List Placed → ℕ → Placed → List SharedValue
shared_at types es t e = map (shared_value types es t) (filter (λ v. begins_sharing e.0 (holders types es t v)) (values_of e.1.attrs t))

-- those of all of these, in order: each value once, as the first that has it spells it
abbrev pub shared_among : List AttributeType → List Placed → ℕ → List SharedValue
shared_among types es t = flat_map (shared_at types es t) es

-- those of a directory, in the order of the dump
abbrev pub shared : List AttributeType → Entries → ℕ → List SharedValue
shared types d t = shared_among types (finite.entries d) t

-- ---- the same, stated by itself

-- what is told is so: these are all entries that have an equal value, there are several, and the first has this very value
pub record IsShared (types : List AttributeType) (d : Entries) (t : ℕ) (r : SharedValue) : Type 0 where
  pub all : r.paths ≡ holders types (finite.entries d) t r.value
  pub first : Path
  pub second : Path
  pub more : List Path
  pub several : r.paths ≡ first ∷ second ∷ more
  pub spelled : IsThere d (record { path = first; type_id = t; value = r.value })

-- an entry's value is told: an equal one is, with this entry
pub record Tells (types : List AttributeType) (t : ℕ) (r : SharedValue) (p : Path) (v : List ℕ) : Type 0 where
  pub equal : are_equal types t r.value v ≡ true
  pub among : Contains r.paths p

-- one of these tells of both
pub record AreToldTogether (types : List AttributeType) (t : ℕ) (reports : List SharedValue) (p : Path) (v : List ℕ) (q : Path) (w : List ℕ) : Type 0 where
  pub report : SharedValue
  pub told : Contains reports report
  pub one : Tells types t report p v
  pub other : Tells types t report q w

-- what is told is shared
abbrev pub EachIsShared : List AttributeType → Entries → ℕ → List SharedValue → Type 0
EachIsShared types d t reports = (r : SharedValue) → Contains reports r → IsShared types d t r

-- where two entries have equal values, one report tells of both
abbrev pub EqualsAreTold : List AttributeType → Entries → ℕ → List SharedValue → Type 0
EqualsAreTold types d t reports = (p q : Path) (v w : List ℕ) → p ≢ q
    → IsThere d (record { path = p; type_id = t; value = v }) → IsThere d (record { path = q; type_id = t; value = w })
    → are_equal types t v w ≡ true → AreToldTogether types t reports p v q w

-- whether two tell of equal values
abbrev pub tell_the_same : List AttributeType → ℕ → SharedValue → SharedValue → Bool
tell_the_same types t r s = are_equal types t r.value s.value
