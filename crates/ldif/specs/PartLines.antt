-- The index of the line that says a part of a record, by how many lines the parts behind it have.
use Rattle.std.specs.Prelude.{ℕ, ◌+◌, ◌-◌, Bool, false, nat_lt, ◌&&◌, if◌then◌else◌, List, [], ◌∷◌, length, take, drop, Option, Some, None, codes, position}
use Rattle.std.specs.List.{sum_by}
use Rattle.ldif.specs.declared.record.Mod.{Mod}
use Rattle.ldif.specs.declared.record.Record.{Record}
use Rattle.ldif.specs.declared.record.Record.TheVariants as records
use Rattle.ldif.specs.declared.parts.Part.{Part}
use Rattle.ldif.specs.declared.parts.Part.TheVariants as parts
use Rattle.ldif.specs.Line.{is_colon, same_name}
use Rattle.ldif.specs.Parts.{attrs_in, mods_in, controls_in, superior_in}
use Rattle.ldif.specs.Reading.{is_dash}

-- ---- blocks

-- whether the last line is a `-`
unfoldable pub last_dash : Bool → List (List ℕ) → Bool
last_dash dash [] = dash
last_dash dash (l ∷ ls) = last_dash (is_dash l) ls

-- the `-` before a block, its first line and its values
abbrev pub block_len : Mod → ℕ
block_len m = 2 + length m.values

-- the index behind a block, where these blocks follow
abbrev pub block_end : List (List ℕ) → List Mod → ℕ
block_end lines others = length lines - (if last_dash false lines then 1 else 0) - sum_by block_len others

abbrev pub block_line_by : List (List ℕ) → List Mod → Option ℕ
block_line_by lines [] = None
block_line_by lines (m ∷ others) = Some (block_end lines others - length m.values - 1)

abbrev pub block_line : List Mod → List (List ℕ) → ℕ → Option ℕ
block_line mods lines block = block_line_by lines (drop block mods)

abbrev pub value_line_by : List (List ℕ) → ℕ → List Mod → Option ℕ
value_line_by lines value [] = None
value_line_by lines value (m ∷ others) = if nat_lt value (length m.values) then Some (block_end lines others - (length m.values - value)) else None

abbrev pub line_of_value : List Mod → List (List ℕ) → ℕ → ℕ → Option ℕ
line_of_value mods lines block value = value_line_by lines value (drop block mods)

-- ---- the front

abbrev pub is_named_by : List ℕ → List ℕ → Option ℕ → Bool
is_named_by line key None = false
is_named_by line key (Some at) = same_name (take at line) key

-- whether this is the name before a line's first colon
abbrev pub is_named : List ℕ → List ℕ → Bool
is_named line key = is_named_by line key (position is_colon line)

abbrev pub begins_with_version : List (List ℕ) → Bool
begins_with_version [] = false
begins_with_version (l ∷ ls) = is_named l (codes "version")

-- how many lines stand before `dn:`
abbrev pub name_line : Bool → List (List ℕ) → ℕ
name_line first lines = if first && begins_with_version lines then 1 else 0

-- ---- parts

-- so many items stand on the last lines: the line of this one
abbrev pub from_end : ℕ → ℕ → ℕ → Option ℕ
from_end len count i = if nat_lt i count then Some (len - (count - i)) else None

abbrev pub name_in : Bool → List (List ℕ) → Record → Option ℕ
name_in first lines records.Empty = None
name_in first lines _ = Some (name_line first lines)

abbrev pub renaming_len : Option (List ℕ) → ℕ
renaming_len None = 2
renaming_len (Some superior) = 3

abbrev pub newrdn_line : List (List ℕ) → Record → Option ℕ
newrdn_line lines (records.ModRdn dn controls newrdn delete_old new_superior) = Some (length lines - renaming_len new_superior)
newrdn_line lines _ = None

abbrev pub superior_line : List (List ℕ) → Option (List ℕ) → Option ℕ
superior_line lines None = None
superior_line lines (Some superior) = Some (length lines - 1)

abbrev pub control_line : Bool → List (List ℕ) → ℕ → ℕ → Option ℕ
control_line first lines count i = if nat_lt i count then Some (name_line first lines + 1 + i) else None

abbrev pub line_of : Record → Bool → List (List ℕ) → Part → Option ℕ
line_of found first lines parts.Name = name_in first lines found
line_of found first lines (parts.Attribute i) = from_end (length lines) (length (attrs_in found)) i
line_of found first lines (parts.Block block) = block_line (mods_in found) lines block
line_of found first lines (parts.Value block value) = line_of_value (mods_in found) lines block value
line_of found first lines (parts.Control i) = control_line first lines (length (controls_in found)) i
line_of found first lines parts.NewRdn = newrdn_line lines found
line_of found first lines parts.NewSuperior = superior_line lines (superior_in found)
