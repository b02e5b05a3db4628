-- What an entry has (RFC 4512, 2.2 and 2.3): an RDN, and attributes in order, each with its values in order.
use Rattle.std.specs.Prelude.{ℕ, Bool, List, [], ◌∷◌, ◌++◌, nat_eq, unwrap_or, if◌then◌else◌}
use Rattle.std.specs.List.{list_any}
use Rattle.std.specs.Map.{lookup}
use Rattle.values.specs.declared.types.AttributeType.{AttributeType}
use Rattle.schema.specs.Values.{are_equal}
use Rattle.schema.specs.Rdns.{TypedRdn}

-- a type's number, and its values as written
abbrev pub Attribute : Type 0
Attribute = ℕ × List (List ℕ)

abbrev pub Attributes : Type 0
Attributes = List Attribute

-- an entry, without where it stands
pub record EntryContent : Type 0 where
  pub rdn : TypedRdn
  pub attrs : Attributes

-- the values of a type
abbrev pub values_of : {X : Type 0} → List (ℕ × List X) → ℕ → List X
values_of attrs t = unwrap_or (lookup (nat_eq t) attrs) []

-- whether one of the values equals this one
abbrev pub has_equal : List AttributeType → ℕ → List ℕ → List (List ℕ) → Bool
has_equal types t v vs = list_any (λ w. are_equal types t w v) vs

-- the value at the end of its attribute, a new attribute at the end
unfoldable pub push_value : {X : Type 0} → List (ℕ × List X) → ℕ → X → List (ℕ × List X)
push_value [] t v = (t, v ∷ []) ∷ []
push_value (a ∷ more) t v = if nat_eq t a.0 then (a.0, a.1 ++ v ∷ []) ∷ more else a ∷ push_value more t v
