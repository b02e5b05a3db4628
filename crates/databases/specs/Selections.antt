-- Which attributes of found entries are printed (RFC 4511, 4.5.1.8).
use Rattle.std.specs.Prelude.{ℕ, Bool, true, false, not, ◌&&◌, List, [], ◌∷◌, Option, Some, None, codes, unwrap_or, if◌then◌else◌}
use Rattle.std.specs.List.{list_any, filter, slice_get}
use Rattle.std.specs.Str.{bytes_eq}
use Rattle.values.specs.declared.types.AttributeType.{AttributeType}
use Rattle.values.specs.Types.{type_of, type_at}
use Rattle.entries.specs.Entries.{EntryContent}
use Rattle.schema.specs.Subtypes.{passes, is_subtype}

-- ---- attribute lists

-- values of an operational type are there for servers, those of all others for users (RFC 4512, 3.4)
abbrev pub is_user_type : List AttributeType → ℕ → Bool
is_user_type types t = not (type_at types t).is_operational

-- `*` asks for all user attributes, `+` for all operational ones, and a type's name or OID for that type and its subtypes; any other word
-- asks for none
abbrev pub asks_for : List AttributeType → ℕ → List ℕ → Bool
asks_for types t word =
    if bytes_eq word (codes "*") then is_user_type types t
    else (if bytes_eq word (codes "+") then (type_at types t).is_operational
    else passes (λ u. is_subtype types t u) (type_of types word))

-- `1.1` alone
abbrev pub is_none : List (List ℕ) → Bool
is_none [] = false
is_none (word ∷ []) = bytes_eq word (codes "1.1")
is_none (word ∷ next ∷ rest) = false

-- whether attributes of a type are selected; the empty list is as `*` alone
abbrev pub is_selected : List AttributeType → List (List ℕ) → ℕ → Bool
is_selected types [] t = is_user_type types t
is_selected types (word ∷ rest) t = not (is_none (word ∷ rest)) && list_any (asks_for types t) (word ∷ rest)

-- ---- selections

-- of each type by its number, whether it is selected; or nothing where all types are
abbrev pub Selection : Type 0
Selection = Option (List Bool)

abbrev pub selects : Selection → ℕ → Bool
selects None t = true
selects (Some flags) t = unwrap_or (slice_get flags t) false

-- the entry with the attributes that are selected, in its order
abbrev pub selected : Selection → EntryContent → EntryContent
selected s e = record { rdn = e.rdn; attrs = filter (λ a. selects s a.0) e.attrs }
