-- Types that a text names, by names or OIDs (RFC 4512, 1.4) with commas between.
use Rattle.std.specs.Prelude.{ℕ, Bool, ◌==◌, List, [], ◌∷◌, ◌++◌, fold, nat_eq, if◌then◌else◌, Option, Some, None, Result, Ok, Err}
use Rattle.std.specs.List.{slice_split, list_any}
use Rattle.base.specs.Answers.{each}
use Rattle.values.specs.declared.types.AttributeType.{AttributeType}
use Rattle.values.specs.Types.{type_of}

abbrev pub is_comma : ℕ → Bool
is_comma b = b == 44

abbrev pub type_or_name : Option ℕ → List ℕ → Result ℕ (List ℕ)
type_or_name (Some t) name = Ok t
type_or_name None name = Err name

-- the type with this name or OID, or the name
abbrev pub type_named : List AttributeType → List ℕ → Result ℕ (List ℕ)
type_named types name = type_or_name (type_of types name) name

-- the types of what stands between commas, or the first that is no type's name
abbrev pub types_named : List AttributeType → List ℕ → Result (List ℕ) (List ℕ)
types_named types text = each (type_named types) (slice_split is_comma text)

-- these types and one more, unless it is among them
abbrev pub put_once : List ℕ → ℕ → List ℕ
put_once seen t = if list_any (λ n. nat_eq n t) seen then seen else seen ++ t ∷ []

-- each of these types once, where it is named first
abbrev pub each_once : List ℕ → List ℕ
each_once ts = fold put_once [] ts
