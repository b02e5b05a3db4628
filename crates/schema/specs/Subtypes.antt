-- A type and those above it (RFC 4512, 2.5.1).
use Rattle.std.specs.Prelude.{◌≡◌, ℕ, zero, suc, Bool, false, ◌==◌, ◌||◌, List, [], ◌∷◌, length, Option, Some, None}
use Rattle.std.specs.List.{filter, range_with_len}
use Rattle.values.specs.declared.types.AttributeType.{AttributeType}
use Rattle.values.specs.Types.{type_at}

-- from a type to another one, by way of these, each of them right above the one before it
abbrev pub LeadsTo : List AttributeType → ℕ → List ℕ → ℕ → Type 0
LeadsTo types t [] u = t ≡ u
LeadsTo types t (s ∷ ss) u = ((type_at types t).superior ≡ Some s) × LeadsTo types s ss u

-- a type is a subtype of itself and of each type above it
pub record IsSubtype (types : List AttributeType) (t u : ℕ) : Type 0 where
  pub above : List ℕ
  pub leads : LeadsTo types t above u

-- ---- as a test

-- whether there is a number, and it passes the test
abbrev pub passes : (ℕ → Bool) → Option ℕ → Bool
passes test None = false
passes test (Some n) = test n

-- whether a type is another one, or leads up to it by so many steps at most
abbrev pub leads_within : List AttributeType → ℕ → ℕ → ℕ → Bool
leads_within types zero t u = t == u
leads_within types (suc steps) t u = (t == u) || passes (λ s. leads_within types steps s u) (type_at types t).superior

-- whether a type is another one, or stands below it; no type has more types above it than there are
abbrev pub is_subtype : List AttributeType → ℕ → ℕ → Bool
is_subtype types t u = leads_within types (length types) t u

-- a type and its subtypes, by their numbers
abbrev pub subtypes : List AttributeType → ℕ → List ℕ
subtypes types u = filter (λ t. is_subtype types t u) (range_with_len 0 (length types))
