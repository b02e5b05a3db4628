-- The lines of an add that were gone through.
use Rattle.std.specs.Prelude.{◌≡◌, ℕ, ◌<◌, Bool, true, false, ◌&&◌, nat_eq, length, List, [], ◌∷◌, Option, Some, None}
use Rattle.std.specs.List.{list_any, slice_get}
use Rattle.std.specs.BTreeMap.{BTreeMap, get}
use Rattle.std.specs.Str.{bytes_eq}
use Rattle.ldif.specs.Attrs.{Attr}
use Rattle.paths.specs.Paths.{Pair, pair_cmp}
use Rattle.values.specs.declared.types.AttributeType.{AttributeType}
use Rattle.values.specs.Types.{type_of}
use Rattle.values.specs.Values.{Value}
use Rattle.schema.specs.Subtypes.{passes}
use Rattle.schema.specs.Values.{norm_at}
use Rattle.entries.specs.Entries.{push_value}
use Rattle.entries.specs.StoredEntries.{EntryAttribute}
use Rattle.reasons.specs.declared.seen_lines.SeenLines.{SeenLines}
use Rattle.reasons.specs.LineFlaws.{UnknownType, UsersCantChange, BadSyntax, EqualValue}
use Rattle.reasons.specs.Flaws.{Flaw, Line}

-- the checks of one line
abbrev pub checks_of_line : ℕ → List Flaw
checks_of_line i = Line i UnknownType ∷ Line i UsersCantChange ∷ Line i BadSyntax ∷ Line i EqualValue ∷ []

-- whether a line says a value of this type with this normal form
abbrev pub says_norm : List AttributeType → ℕ → List ℕ → Attr → Bool
says_norm types t norm l = passes (nat_eq t) (type_of types l.name) && bytes_eq (norm_at types t l.value) norm

-- the index of a line that says such a value, or that none does
abbrev pub IsSaidBy : List AttributeType → List Attr → ℕ → List ℕ → Option ℕ → Type 0
IsSaidBy types lines t norm None = list_any (says_norm types t norm) lines ≡ false
IsSaidBy types lines t norm (Some index) = (l : Attr) × (slice_get lines index ≡ Some l) × (says_norm types t norm l ≡ true)

-- a map leads to these lines, and to no other
pub record ArePlaced (types : List AttributeType) (lines : List Attr) (places : BTreeMap Pair ℕ) : Type 0 where
  pub each : (t : ℕ) (norm : List ℕ) → IsSaidBy types lines t norm (get pair_cmp places (t, norm))

-- where there is a map, it does
abbrev pub ArePlacedBy : List AttributeType → List Attr → Option (BTreeMap Pair ℕ) → Type 0
ArePlacedBy types lines None = Unit {0}
ArePlacedBy types lines (Some places) = ArePlaced types lines places

-- ---- the values that lines say

-- a type's number, and a value
abbrev pub TypedValue : Type 0
TypedValue = ℕ × Value

-- a line says this value of this type
pub record IsTyped (types : List AttributeType) (l : Attr) (x : TypedValue) : Type 0 where
  pub known : x.0 < length types
  pub type_is : type_of types l.name ≡ Some x.0
  pub raw_is : x.1.raw ≡ l.value
  pub norm_is : x.1.norm ≡ norm_at types x.0 l.value

-- these lines say these values, in order
abbrev pub AreTyped : List AttributeType → List Attr → List TypedValue → Type 0
AreTyped types [] [] = Unit {0}
AreTyped types [] (x ∷ xs) = ⊥
AreTyped types (l ∷ ls) [] = ⊥
AreTyped types (l ∷ ls) (x ∷ xs) = IsTyped types l x × AreTyped types ls xs

-- whether a value is of this type and has this normal form
abbrev pub has_norm_of : ℕ → List ℕ → TypedValue → Bool
has_norm_of t norm x = nat_eq t x.0 && bytes_eq x.1.norm norm

-- the index of such a value, or that none is there
abbrev pub IsPlaceIn : ℕ → List ℕ → List TypedValue → Option ℕ → Type 0
IsPlaceIn t norm xs None = list_any (has_norm_of t norm) xs ≡ false
IsPlaceIn t norm xs (Some place) = (x : TypedValue) × (slice_get xs place ≡ Some x) × (has_norm_of t norm x ≡ true)

-- a value behind those of its type
abbrev pub put_typed_value : List EntryAttribute → TypedValue → List EntryAttribute
put_typed_value es x = push_value es x.0 x.1

-- these lines were gone through
pub record AreSeen (types : List AttributeType) (lines : List Attr) (seen : SeenLines) : Type 0 where
  pub typed : AreTyped types lines seen.values.items
  pub placed : ArePlacedBy types lines seen.places
