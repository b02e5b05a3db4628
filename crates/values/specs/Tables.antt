-- Numbers by their names, and attribute types by theirs.
use Rattle.std.specs.Prelude.{◌≡◌, ℕ, Bool, if◌then◌else◌, List, [], ◌∷◌, Option, Some, None}
use Rattle.std.specs.Str.{str_eq_ignore_ascii_case}
use Rattle.values.specs.declared.types.AttributeType.{AttributeType}
use Rattle.values.specs.declared.name_index.NameEntry.{NameEntry}
use Rattle.values.specs.Types.{type_of}

-- this number under a name
abbrev pub named : ℕ → List ℕ → NameEntry
named number name = record { name = name; number = number }

-- the number of the first entry with this name, in any ASCII case
abbrev pub number_of : List NameEntry → List ℕ → Option ℕ
number_of [] name = None
number_of (e ∷ es) name = if str_eq_ignore_ascii_case e.name name then Some e.number else number_of es name

-- it is that of the first type with this name or OID
abbrev pub FindsTypes : List NameEntry → List AttributeType → Type 0
FindsTypes entries types = (name : List ℕ) → number_of entries name ≡ type_of types name

-- what was there, or else t where a test passes
abbrev pub or_if : Option ℕ → Bool → ℕ → Option ℕ
or_if (Some n) passes t = Some n
or_if None passes t = if passes then Some t else None
