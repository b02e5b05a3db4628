-- What is reported: a line for each thing that is wrong, in a form that scripts read.
use Rattle.std.specs.Prelude.{ℕ, ◌/◌, ◌%◌, Bool, true, ◌||◌, ◌==◌, nat_lt, List, [], ◌∷◌, ◌++◌, if◌then◌else◌, codes}
use Rattle.std.specs.List.{flat_map}
use Rattle.base.specs.Ascii.{tab, line_feed, backslash}
use Rattle.dn.specs.Writing.{digit}
use Rattle.ldif.specs.Writing.{line_text}
use Rattle.values.specs.Types.{name_of}
use Rattle.paths.specs.Paths.{Path}
use Rattle.schema.specs.Conf.{Conf}
use Rattle.tree.specs.Directories.{Entries, name_of_entry}
use Rattle.checks.specs.declared.entry_value.EntryValue.{EntryValue}
use Rattle.checks.specs.declared.shared_value.SharedValue.{SharedValue}
use Rattle.checks.specs.References.{dangling}
use Rattle.checks.specs.Sharing.{shared}
use Rattle.checks.specs.TypeNames.{each_once}

-- a word for what is wrong, where it is, and what it is, with tabs between
abbrev pub report : List ℕ → List ℕ → List ℕ → List ℕ
report kind place what = kind ++ tab ∷ (place ++ tab ∷ (what ++ line_feed ∷ []))

-- what stands before that
abbrev pub place_front : List ℕ → List ℕ → List ℕ
place_front kind place = kind ++ tab ∷ (place ++ tab ∷ [])

-- a byte that may end a line or a field, or that a terminal obeys
abbrev pub is_control : ℕ → Bool
is_control b = nat_lt b 32 || b == 127

-- a byte of the name of a file: a control character is a backslash and two hexadecimal digits, as in a name (RFC 4514, 2.4)
abbrev pub name_byte : ℕ → List ℕ
name_byte b = if is_control b then backslash ∷ digit (b / 16) ∷ digit (b % 16) ∷ [] else b ∷ []

-- the name of a file, in one field of one line
abbrev pub shown_name : List ℕ → List ℕ
shown_name name = flat_map name_byte name

-- of a value of an entry: the entry's name, and the value as a line of LDIF that isn't folded (RFC 2849)
abbrev pub value_report : List ℕ → Conf → Entries → Path → ℕ → List ℕ → List ℕ
value_report kind conf d p t value = report kind (name_of_entry conf d p) (line_text (name_of conf.types t) value)

-- ---- records that are refused

-- a text with this in front of each of its lines; whether it begins a line
unfoldable pub lines_behind : List ℕ → Bool → List ℕ → List ℕ
lines_behind front begins [] = []
lines_behind front begins (b ∷ bs) = (if begins then front else []) ++ b ∷ lines_behind front (b == line_feed) bs

-- each line that reports a refused record of the file of this name, where the records are added one after the other
abbrev pub refused_reports : List ℕ → List ℕ → List ℕ
refused_reports name text = lines_behind (place_front (codes "refused") (shown_name name)) true text

-- ---- references that dangle

abbrev pub dangling_report : Conf → Entries → EntryValue → List ℕ
dangling_report conf d v = value_report (codes "dangling") conf d v.path v.type_id v.value

-- each of them, in the order of the dump
abbrev pub dangling_reports : Conf → Entries → List ℕ → List ℕ
dangling_reports conf d named = flat_map (dangling_report conf d) (dangling conf d named)

-- ---- values that several entries have

-- of each entry that has it, the value as the first one spells it
abbrev pub shared_report : Conf → Entries → ℕ → SharedValue → List ℕ
shared_report conf d t r = flat_map (λ p. value_report (codes "shared") conf d p t r.value) r.paths

-- of a type, each of them, in the order of their first entries
abbrev pub type_reports : Conf → Entries → ℕ → List ℕ
type_reports conf d t = flat_map (shared_report conf d t) (shared conf.types d t)

-- of each of these types, one after the other; of one that is named twice, once
abbrev pub shared_reports : Conf → Entries → List ℕ → List ℕ
shared_reports conf d ts = flat_map (type_reports conf d) (each_once ts)
