-- Values of an attribute that change, with a map that tells which of them are left.
use Rattle.std.specs.Prelude.{◌≡◌, ℕ, ◌+◌, Bool, false, List, [], ◌∷◌, ◌++◌, nat_eq, nat_le, is_some, IsTrue, length, Option, Some, None, if◌then◌else◌}
use Rattle.std.specs.BTreeMap.{BTreeMap, get}
use Rattle.std.specs.Cmp.Lexicographic.{slice_cmp}
use Rattle.std.specs.Ordering.{nat_cmp, is_eq}
use Rattle.std.specs.Map.{lookup}
use Rattle.values.specs.Values.{Value}
use Rattle.entries.specs.declared.values_draft.Places.{Places}
use Rattle.entries.specs.Modifies.{set_values}
use Rattle.entries.specs.StoredEntries.{EntryAttribute}
use Rattle.values.specs.Norms.{has_norm}

-- for a normal form, the place from which on values that have it are left
abbrev pub Since : Type 0
Since = BTreeMap (List ℕ) ℕ

abbrev pub is_from : ℕ → Option ℕ → Bool
is_from place None = false
is_from place (Some first) = nat_le first place

-- a map after this normal form came in from a place on
abbrev pub IsLeftFrom : ℕ → List ℕ → Since → Since → Type 0
IsLeftFrom place norm old new = (q : List ℕ) → get (slice_cmp nat_cmp) new q ≡ (if is_eq (slice_cmp nat_cmp norm q) then Some place else get (slice_cmp nat_cmp) old q)

-- whether the value at a place is left
abbrev pub is_left : Since → ℕ → Value → Bool
is_left since place v = is_from place (get (slice_cmp nat_cmp) since v.norm)

-- those that are left, of values from a place on
unfoldable pub left_from : Since → ℕ → List Value → List Value
left_from since place [] = []
left_from since place (v ∷ vs) = if is_left since place v then v ∷ left_from since (place + 1) vs else left_from since (place + 1) vs

-- with places, those that they tell of, and without them all values
abbrev pub left_of : Option Places → List Value → List Value
left_of None vs = vs
left_of (Some places) vs = left_from places.since 0 vs

-- values with one more behind them, if it was put
abbrev pub put_if : Bool → List Value → Value → List Value
put_if put vs v = if put then vs ++ v ∷ [] else vs

-- the map has the normal form of each value that is left, and no other
pub record AreLeft (since : Since) (vs : List Value) : Type 0 where
  pub each : (norm : List ℕ) → is_some (get (slice_cmp nat_cmp) since norm) ≡ has_norm norm (left_from since 0 vs)

-- each value is left
pub record IsAtStart (since : Since) (vs : List Value) : Type 0 where
  pub each : (norm : List ℕ) → get (slice_cmp nat_cmp) since norm ≡ (if has_norm norm vs then Some 0 else None)

-- places are those of values
pub record KeepsPlaces (places : Places) (vs : List Value) : Type 0 where
  pub left : AreLeft places.since vs
  pub count : places.count ≡ length vs
  pub all : IsTrue places.all_left → left_from places.since 0 vs ≡ vs

-- places are those of values, of which each is left
pub record AreAllLeft (places : Places) (vs : List Value) : Type 0 where
  pub start : IsAtStart places.since vs
  pub count : places.count ≡ length vs

abbrev pub KeepPlaces : Option Places → List Value → Type 0
KeepPlaces None vs = Unit {0}
KeepPlaces (Some places) vs = KeepsPlaces places vs

-- ---- attributes of which one may be taken out

abbrev pub put_back : List EntryAttribute → Option EntryAttribute → List EntryAttribute
put_back attrs None = attrs
put_back attrs (Some a) = set_values attrs a.0 a.1

-- where none of its values are left, no place is kept for it
abbrev pub IsTaken : List EntryAttribute → Option EntryAttribute → Type 0
IsTaken attrs None = Unit {0}
IsTaken attrs (Some a) = a.1 ≡ [] → lookup (nat_eq a.0) attrs ≡ None
