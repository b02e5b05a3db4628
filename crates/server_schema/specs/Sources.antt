-- The lines of a schema's text. In LDIF (RFC 2849) and in slapd.conf(5) a line goes on on those that begin with a blank.
use Rattle.std.specs.Prelude.{ℕ, Bool, ◌==◌, if◌then◌else◌, List, [], ◌∷◌, ◌++◌, drop, map}
use Rattle.std.specs.List.{list_any, slice_split}
use Rattle.std.specs.Str.Lines.{strip_carriage_return}
use Rattle.base.specs.Ascii.{colon, space}
use Rattle.definitions.specs.Words.{first_word}
use Rattle.definitions.specs.Lines as lines
use Rattle.definitions.specs.Lines.{is_line_feed}

abbrev pub is_colon : ℕ → Bool
is_colon b = b == colon

-- LDIF has a name and a colon in the first word of a line; in slapd.conf the first word is a directive
abbrev pub is_ldif : List ℕ → Bool
is_ldif line = list_any is_colon (first_word line)

abbrev pub begins_blank : List ℕ → Bool
begins_blank text = lines.begins_blank text

-- no empty line goes on
abbrev pub goes_on_with : List ℕ → List ℕ → Bool
goes_on_with line stretch = lines.goes_on_with line stretch

-- LDIF drops the break and the blank behind it; in slapd.conf they count as one space
abbrev pub joined : List ℕ → List ℕ → List ℕ
joined line stretch = line ++ (if is_ldif line then drop 1 stretch else space ∷ drop 1 stretch)

-- a line as far as it was read, and the stretches behind it
unfoldable pub lines_from : List ℕ → List (List ℕ) → List (List ℕ)
lines_from line [] = line ∷ []
lines_from line (stretch ∷ more) = if goes_on_with line stretch then lines_from (joined line stretch) more else line ∷ lines_from stretch more

abbrev pub all_lines : List (List ℕ) → List (List ℕ)
all_lines [] = []
all_lines (first ∷ others) = lines_from first others

-- lines end at LF or CR LF
unfoldable pub source_lines : List ℕ → List (List ℕ)
source_lines text = all_lines (map strip_carriage_return (slice_split is_line_feed text))
