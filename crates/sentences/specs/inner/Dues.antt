-- What may come next in a text that is read as a name, from the left (RFC 4514, section 3).
use Rattle.std.specs.Prelude.{ℕ, if◌then◌else◌, ◌==◌, List, [], ◌∷◌, Option, Some, None}
use Rattle.base.specs.Ascii.{space, number_sign, equals_sign, backslash}
use Rattle.dn.specs.Names.{is_type_byte}
use Rattle.dn.specs.NameFaults.{is_separator}
use Rattle.dn.specs.Spelling.{may_stand, may_follow, is_hex}
use Rattle.sentences.specs.declared.name_places.Due.{Due}
use Rattle.sentences.specs.declared.name_places.Due.TheVariants as dues

-- where a type or an equals sign is due
abbrev pub behind_type : ℕ → Option Due
behind_type b =
    if b == space then Some dues.Equals else if b == equals_sign then Some dues.Value else if is_type_byte b then Some dues.RestOfType else None

-- within a value
abbrev pub within_value : ℕ → Option Due
within_value b =
    if b == backslash then Some dues.Escaped else if is_separator b then Some dues.Type else if may_stand b then Some dues.RestOfValue else None

-- behind a backslash
abbrev pub escaped : ℕ → Option Due
escaped b = if may_follow b then Some dues.RestOfValue else if is_hex b then Some dues.Digit else None

-- behind a byte; nothing where the byte can't come now
abbrev pub next_due : Due → ℕ → Option Due
next_due dues.Type b = if b == space then Some dues.Type else if b == equals_sign then None else behind_type b
next_due dues.RestOfType b = behind_type b
next_due dues.Equals b = if is_type_byte b then None else behind_type b
next_due dues.Value b = if b == space then Some dues.Value else if b == number_sign then None else within_value b
next_due dues.RestOfValue b = within_value b
next_due dues.Escaped b = escaped b
next_due dues.Digit b = if is_hex b then Some dues.RestOfValue else None

-- behind a text
abbrev pub due_behind : Option Due → List ℕ → Option Due
due_behind None bs = None
due_behind (Some due) [] = Some due
due_behind (Some due) (b ∷ bs) = due_behind (next_due due b) bs
