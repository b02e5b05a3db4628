-- What is said of entries that are there, and of names that no entry has.
use Rattle.std.specs.Prelude.{◌≡◌, ℕ, ◌+◌, ◌<◌, ◌++◌, ◌==◌, Bool, true, false, if◌then◌else◌, List, [], length, take, drop, count_by, Option, Some, None, Result, Ok, Err, codes}
use Rattle.std.specs.FinMap as finite
use Rattle.std.specs.Fmt.{decimal}
use Rattle.std.specs.List.{join_with_byte}
use Rattle.base.specs.Ascii.{comma}
use Rattle.dn.specs.Reading.{cut_raw}
use Rattle.paths.specs.Paths.{Path, is_below}
use Rattle.schema.specs.declared.code.Code.{Code}
use Rattle.schema.specs.Conf.{Conf, path_of_text}
use Rattle.tree.specs.Directories.{Entries, name_of_entry}
use Rattle.sentences.specs.Counts.{grouped}
use Rattle.sentences.specs.Shown.{shown_name}

-- ---- an entry that is there

abbrev pub as_name : Bool → List ℕ → List ℕ
as_name true name = codes ", as " ++ shown_name name
as_name false name = []

-- that the name is there; and how it is spelled there, if that was looked up
abbrev pub there_words : Conf → Entries → Option Path → List ℕ
there_words conf d None = codes "there already"
there_words conf d (Some path) = codes "there already" ++ as_name (finite.contains_key d path) (name_of_entry conf d path)

-- ---- the entries below one

-- how many entries are below a path
unfoldable pub count_below : Entries → Path → ℕ
count_below d path = count_by (λ e. is_below path e.0) (finite.entries d)

unfoldable pub some_below : ℕ → List ℕ
some_below count =
    if count == 1 then codes "an entry is below it: delete that first" else grouped count ++ codes " entries are below it: delete those first"

-- that there are some, and how many, if that was looked up
abbrev pub below_words : Entries → Option Path → List ℕ
below_words d None = codes "entries are below it"
below_words d (Some path) = some_below (count_below d path)

-- ---- the nearest entry above a path

-- `above` is a beginning of the path, an entry is there, and no entry is between the two
pub record IsNearestAbove (entries : Entries) (path above : Path) : Type 0 where
  pub shorter : length above < length path
  pub begins : above ≡ take (length above) path
  pub there : finite.contains_key entries above ≡ true
  pub nearest : (k : ℕ) → length above < k → k < length path → finite.contains_key entries (take k path) ≡ false

-- no entry is above the path
abbrev pub NoneAbove : Entries → Path → Type 0
NoneAbove entries path = (k : ℕ) → k < length path → finite.contains_key entries (take k path) ≡ false

abbrev pub IsNearest : Entries → Path → Option Path → Type 0
IsNearest d path None = NoneAbove d path
IsNearest d path (Some above) = IsNearestAbove d path above

-- its name, where it isn't the one right above
unfoldable pub above_words : Conf → Entries → Path → Path → List ℕ
above_words conf d path above =
    if length above + 1 == length path then [] else codes "; the nearest above it is " ++ shown_name (name_of_entry conf d above)

abbrev pub nearest_words : Conf → Entries → Path → Option Path → List ℕ
nearest_words conf d path None = []
nearest_words conf d path (Some above) = above_words conf d path above

abbrev pub IsNearestWords : Conf → Entries → Path → List ℕ → Type 0
IsNearestWords conf d path words = (above : Option Path) × IsNearest d path above × (words ≡ nearest_words conf d path above)

-- ---- a name that no entry has

-- on which line of the text a record begins that is refused, and that was to add an entry at a path
abbrev pub RefusedLines : Type 0
RefusedLines = Path → Option ℕ

abbrev pub refused_at : Option ℕ → List ℕ
refused_at None = []
refused_at (Some line) = codes " (refused at line " ++ decimal line ++ codes ")"

-- that no entry has it; and where a record is refused that was to add one
abbrev pub no_entry : List ℕ → Option ℕ → List ℕ
no_entry name line = codes "no entry " ++ shown_name name ++ refused_at line

-- the same, and which entry is the nearest above
abbrev pub IsNoEntryWords : Conf → Entries → RefusedLines → List ℕ → Path → List ℕ → Type 0
IsNoEntryWords conf d refused name path words =
    (nearest : List ℕ) × IsNearestWords conf d path nearest × (words ≡ no_entry name (refused path) ++ nearest)

-- of a name that leads to a path: that no entry has it, or that one has it
pub record IsLookedUp (conf : Conf) (d : Entries) (refused : RefusedLines) (name : List ℕ) (path : Path) (words : List ℕ) : Type 0 where
  pub there : finite.contains_key d path ≡ true → words ≡ shown_name name ++ codes " is there"
  pub missing : finite.contains_key d path ≡ false → IsNoEntryWords conf d refused name path words

-- of any name
abbrev pub IsMissingWords : Conf → Entries → RefusedLines → List ℕ → Option Path → List ℕ → Type 0
IsMissingWords conf d refused name None words = words ≡ codes "no entry " ++ shown_name name
IsMissingWords conf d refused name (Some path) words = IsLookedUp conf d refused name path words

-- ---- other names

-- the name of the entry above one with this name: its RDNs but the first, as they are written (RFC 4514, 2.1); a comma that is escaped ends none
unfoldable pub parent_text : List ℕ → List ℕ
parent_text name = join_with_byte comma (drop 1 (cut_raw comma false name))

abbrev pub path_if_found : Result Path Code → Option Path
path_if_found (Ok path) = Some path
path_if_found (Err code) = None

-- the path that a name leads to, if it may be an entry's
abbrev pub path_named : Conf → List ℕ → Option Path
path_named conf name = path_if_found (path_of_text conf name)
