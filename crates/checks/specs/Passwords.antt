-- Whether a directory has passwords: values of userPassword (RFC 4519, 2.41).
use Rattle.std.specs.Prelude.{ℕ, Bool, false, nat_eq, List, Option, Some, None, codes}
use Rattle.std.specs.List.{list_any}
use Rattle.std.specs.FinMap as finite
use Rattle.values.specs.declared.types.AttributeType.{AttributeType}
use Rattle.values.specs.Types.{type_of}
use Rattle.tree.specs.Directories.{Entries}

-- whether an entry has an attribute of this type
abbrev pub has_type : Entries → ℕ → Bool
has_type d t = list_any (λ x. list_any (λ a. nat_eq t a.0) x.1.attrs) (finite.entries d)

abbrev pub has_type_found : Entries → Option ℕ → Bool
has_type_found d None = false
has_type_found d (Some t) = has_type d t

-- the type is known by its number, whatever its names are
abbrev pub has_passwords : List AttributeType → Entries → Bool
has_passwords types d = has_type_found d (type_of types (codes "2.5.4.35"))
