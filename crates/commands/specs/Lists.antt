-- Searches of a list: one for each line of a file, on one load of the directory (ldapsearch(1), -f).
use Rattle.std.specs.Prelude.{◌≡◌, ℕ, ◌+◌, ◌⊎◌, Bool, true, false, ◌&&◌, ◌==◌, List, [], ◌∷◌, ◌++◌, length, drop, map, bytes_eq, Option, None, Some, if◌then◌else◌, codes}
use Rattle.std.specs.Option.{option_copied}
use Rattle.std.specs.List.{flat_map}
use Rattle.std.specs.Fmt.{decimal}
use Rattle.std.specs.FinMap as finite
use Rattle.base.specs.Ascii.{tab, line_feed, carriage_return}
use Rattle.base.specs.Ends.{begins_with}
use Rattle.paths.specs.Paths.{Path}
use Rattle.schema.specs.Conf.{Conf}
use Rattle.schema.specs.declared.code.Code.TheVariants.{SizeLimitExceeded}
use Rattle.entries.specs.Entries.{EntryContent}
use Rattle.tree.specs.Directories.{Entries}
use Rattle.filter_text.specs.Spells.{FilterContent}
use Rattle.filter_text.specs.declared.filter_fault.FilterFault.{FilterFault}
use Rattle.databases.specs.Found.{up_to, limited_text, goes_past}
use Rattle.databases.specs.IndexTexts.{index_text}
use Rattle.databases.specs.Scanned.{scan}
use Rattle.databases.specs.Selections.{Selection}
use Rattle.command_line.specs.declared.request.SearchOptions.{SearchOptions}
use Rattle.folders.specs.Folders.{Files}
use Rattle.commands.specs.Asked.{IsFilter, IsNoFilterFor, IsBase, IsSelection}
use Rattle.commands.specs.DirectoryFiles.{index_name}
use Rattle.commands.specs.Endings.{StoppedAt, IsAtOnce, HasOnlyPrinted, IsFault}
use Rattle.commands.specs.Failures.{FailsToRead, FailsToWrite, Refuses}
use Rattle.commands.specs.IndexFiles.{Said, said_by, SaysOf, found_by, IsFaultReported}
use Rattle.commands.specs.Loaded.{IsLoaded, LoadFails}
use Rattle.commands.specs.Messages.{fault_text}
use Rattle.commands.specs.Prints.{IsSaid, BreaksInReport, SearchGoesThrough, SearchStops}
use Rattle.commands.specs.Queries.{HasNoBase, HasBegun, PrintsPartly}
use Rattle.commands.specs.Statuses.{goes_on, worse}
use Rattle.commands.specs.Texts.{ReadsText, IsUnread}
use Rattle.commands.specs.Worlds.{World, IsPrinted, Reports}
use Rattle.commands.specs.declared.messages.CommandFault.{CommandFault}
use Rattle.commands.specs.declared.messages.CommandFault.TheVariants as faults
use Rattle.commands.specs.declared.messages.Status.{Status}
use Rattle.commands.specs.declared.messages.Status.TheVariants.{Done, Refused, Usage}
use Rattle.commands.specs.declared.messages.Stop.TheVariants as stops

-- ---- the lines of a list

-- a byte in front of the first line
abbrev pub in_front : ℕ → List (List ℕ) → List (List ℕ)
in_front b [] = (b ∷ []) ∷ []
in_front b (line ∷ more) = (b ∷ line) ∷ more

-- each ends with LF or CR LF; what stands behind the last end is a line, too, if anything does
unfoldable pub lines : List ℕ → List (List ℕ)
lines [] = []
lines (b ∷ bs) =
    if b == line_feed then [] ∷ lines bs
    else if b == carriage_return && begins_with line_feed bs then lines bs
    else in_front b (lines bs)

-- ---- the filter of a line

-- whether `%s` stands at the front
abbrev pub begins_with_mark : List ℕ → Bool
begins_with_mark [] = false
begins_with_mark (b ∷ bs) = b == 37 && begins_with 115 bs

-- a pattern with the line in place of its first `%s`, as it is
unfoldable pub filled : List ℕ → List ℕ → List ℕ
filled line [] = []
filled line (b ∷ bs) = if begins_with_mark (b ∷ bs) then line ++ drop 1 bs else b ∷ filled line bs

-- the text of its filter: without a pattern that is the line
abbrev pub filter_text : Option (List ℕ) → List ℕ → List ℕ
filter_text None line = line
filter_text (Some pattern) line = filled line pattern

-- ---- what is printed for a line

-- a byte of a filter in a comment: what would end a line stands as RFC 4515, 3 lets any byte of a value stand
abbrev pub comment_byte : ℕ → List ℕ
comment_byte b = if b == line_feed then codes "\\0A" else if b == carriage_return then codes "\\0D" else b ∷ []

-- a comment in front of the entries (RFC 2849, note 5)
unfoldable pub comment : List ℕ → List ℕ
comment text = codes "# filter: " ++ (flat_map comment_byte text ++ line_feed ∷ [])

-- behind how many they are stands the line
abbrev pub count_tail : List ℕ → List ℕ
count_tail line = tab ∷ (line ++ line_feed ∷ [])

-- What the searches have in common: the directory that was loaded, what its index.txt says, the base, and which attributes are printed.
pub record Common : Type 0 where
  pub conf : Conf
  pub entries : Entries
  pub said : Said
  pub base : Path
  pub selection : Selection

-- so it was asked for, and the base is there
pub record IsCommon (asked : SearchOptions) (files : Option Files) (c : Common) : Type 0 where
  pub loaded : IsLoaded files asked.db.now c.conf c.entries
  pub says : SaysOf files asked.db.now c.conf c.entries c.said
  pub base_is : IsBase c.conf (option_copied asked.base) c.base
  pub there : finite.contains_key c.entries c.base ≡ true
  pub selects : IsSelection c.conf (map (λ w. w.now) asked.attributes.items) c.selection

-- what a filter finds, by what index.txt says
abbrev pub found_for : SearchOptions → Common → FilterContent → List (Path × EntryContent)
found_for asked c f = found_by c.said c.conf c.entries c.base asked.scope f

-- how many that are, up to the limit, and the line; or a comment with the text of the filter, and their records
abbrev pub answer_text : SearchOptions → Common → List ℕ → FilterContent → List ℕ
answer_text asked c line f =
    if asked.count then decimal (length (up_to asked.limit (found_for asked c f))) ++ count_tail line
    else comment (filter_text (option_copied asked.filter) line) ++ limited_text asked.width c.conf c.entries c.selection asked.limit (found_for asked c f)

-- It is the text for a line whose text spells a filter, and whether there is more than the limit. Where the text of index.txt is that of the
-- directory's index, that is of all that the filter finds.
pub record IsAnswer (asked : SearchOptions) (c : Common) (line : List ℕ) (past : Bool) (text : List ℕ) : Type 0 where
  pub filter : FilterContent
  pub filter_is : IsFilter (Some (filter_text (option_copied asked.filter) line)) filter
  pub past_is : past ≡ goes_past asked.limit (found_for asked c filter)
  pub text_is : text ≡ answer_text asked c line filter
  pub whole : c.said ≡ said_by c.conf c.entries (Some (index_text c.conf c.entries))
      → found_for asked c filter ≡ scan c.conf c.entries c.base asked.scope filter

-- ---- how the search of a line ends

-- where there is more than the limit, that is reported with the number of the line
abbrev pub ReportsLimit : Bool → ℕ → World → World → Status → Type 0
ReportsLimit false n w w' s = (s ≡ Done) × (w' ≡ w)
ReportsLimit true n w w' s = Reports (fault_text (faults.LineCode n SizeLimitExceeded)) Refused w w' s

-- it is searched for
pub record IsSearched (asked : SearchOptions) (c : Common) (n : ℕ) (line : List ℕ) (w w' : World) (s : Status) : Type 0 where
  pub past : Bool
  pub text : List ℕ
  pub is : IsAnswer asked c line past text
  pub mid : World
  pub printed : IsPrinted text w mid
  pub reported : ReportsLimit past n mid w' s

-- it spells no filter, and that is reported with its number
pub record IsFaulty (asked : SearchOptions) (n : ℕ) (line : List ℕ) (w w' : World) (s : Status) : Type 0 where
  pub fault : FilterFault
  pub is : IsNoFilterFor (Some (filter_text (option_copied asked.filter) line)) fault
  pub reported : Reports (fault_text (faults.Line n fault)) Usage w w' s

abbrev pub EndsLine : SearchOptions → Common → ℕ → List ℕ → World → World → Status → Type 0
EndsLine asked c n line w w' s = IsSearched asked c n line w w' s ⊎ IsFaulty asked n line w w' s

-- a beginning of its text was printed, when the output failed or memory ran out
pub record StopsInLine (asked : SearchOptions) (c : Common) (line : List ℕ) (w : World) (at : StoppedAt) : Type 0 where
  pub fault : CommandFault
  pub fault_is : at.why ≡ stops.Fault fault
  pub why : FailsToWrite (codes "output") fault
  pub printed : PrintsPartly (HasBegun (λ text. (past : Bool) × IsAnswer asked c line past text) None) w.output at.world.output fault
  pub only : HasOnlyPrinted w at

-- ---- one line after the other

-- what holds where a list goes on, and where it doesn't
abbrev pub AsItGoesOn : Bool → Type 0 → Type 0 → Type 0
AsItGoesOn true On Off = On
AsItGoesOn false On Off = Off

-- The lines, the first of which has this number, were searched for one after the other, where those before them ended so.
abbrev pub RunsLines : SearchOptions → Common → ℕ → Status → List (List ℕ) → World → World → Status → Type 0
RunsLines asked c n so_far [] w w' s = (s ≡ so_far) × (w' ≡ w)
RunsLines asked c n so_far (line ∷ more) w w' s =
    (mid : World) × (ended : Status) × EndsLine asked c n line w mid ended
    × AsItGoesOn (goes_on asked.go_on ended) (RunsLines asked c (n + 1) (worse so_far ended) more mid w' s) ((s ≡ worse so_far ended) × (w' ≡ mid))

-- so were the first of them, and then the search of the next one stopped
abbrev pub StopsInLines : SearchOptions → Common → ℕ → List (List ℕ) → World → StoppedAt → Type 0
StopsInLines asked c n [] w at = ⊥
StopsInLines asked c n (line ∷ more) w at =
    StopsInLine asked c line w at
    ⊎ ((mid : World) × (ended : Status) × EndsLine asked c n line w mid ended × (goes_on asked.go_on ended ≡ true) × StopsInLines asked c (n + 1) more mid at)

-- ---- where the list comes from

-- the file of this name, or the input
abbrev pub list_source : List ℕ → Option (List ℕ)
list_source name = if bytes_eq name (codes "-") then None else Some name

abbrev pub ReadsList : List ℕ → List ℕ → World → World → Type 0
ReadsList name = ReadsText (list_source name)

abbrev pub IsUnreadable : List ℕ → World → StoppedAt → Type 0
IsUnreadable name = IsUnread (list_source name)

-- ---- behind the report of what is wrong with index.txt, if anything is

-- the list was read, and its lines were searched for
pub record ListRuns (name : List ℕ) (asked : SearchOptions) (said : Said) (w w' : World) (s : Status) : Type 0 where
  pub common : Common
  pub is : IsCommon asked w.files common
  pub said_is : common.said ≡ said
  pub text : List ℕ
  pub mid : World
  pub reads : ReadsList name text w mid
  pub runs : RunsLines asked common 1 Done (lines text) mid w' s

-- the directory that was loaded lacks the base, or memory ran out
pub record LacksListBase (asked : SearchOptions) (w : World) (at : StoppedAt) : Type 0 where
  pub conf : Conf
  pub entries : Entries
  pub loaded : IsLoaded w.files asked.db.now conf entries
  pub why : IsFault (Refuses (codes "search") (HasNoBase conf entries (option_copied asked.base))) at.why
  pub at_once : IsAtOnce w at

-- the list was read, and a line was broken off, behind those before it
pub record IsListBrokenOff (name : List ℕ) (asked : SearchOptions) (said : Said) (w : World) (at : StoppedAt) : Type 0 where
  pub common : Common
  pub is : IsCommon asked w.files common
  pub said_is : common.said ≡ said
  pub text : List ℕ
  pub mid : World
  pub reads : ReadsList name text w mid
  pub stops : StopsInLines asked common 1 (lines text) mid at

abbrev pub ListBreaks : List ℕ → SearchOptions → Said → World → StoppedAt → Type 0
ListBreaks name asked said w at = LacksListBase asked w at ⊎ (IsUnreadable name w at ⊎ IsListBrokenOff name asked said w at)

-- ---- where it goes through

-- a directory was loaded, and a fault of its index.txt was reported, if it has one
pub record ListGoesThrough (name : List ℕ) (asked : SearchOptions) (w w' : World) (s : Status) : Type 0 where
  pub said : Said
  pub is : IsSaid asked w.files said
  pub index_reported : World
  pub reports : IsFaultReported said w index_reported
  pub runs : ListRuns name asked said index_reported w' s

-- ---- where it stops

-- no directory was loaded
abbrev pub IsUnloaded : SearchOptions → World → StoppedAt → Type 0
IsUnloaded asked w at = IsFault (LoadFails w.files asked.db.now) at.why × IsAtOnce w at

-- one was, and its index.txt can't be read
pub record IsIndexUnread (asked : SearchOptions) (w : World) (at : StoppedAt) : Type 0 where
  pub conf : Conf
  pub entries : Entries
  pub loaded : IsLoaded w.files asked.db.now conf entries
  pub why : IsFault (FailsToRead (index_name asked.db.now)) at.why
  pub at_once : IsAtOnce w at

-- behind the report
pub record ListStopsReported (name : List ℕ) (asked : SearchOptions) (w : World) (at : StoppedAt) : Type 0 where
  pub said : Said
  pub is : IsSaid asked w.files said
  pub index_reported : World
  pub reports : IsFaultReported said w index_reported
  pub breaks : ListBreaks name asked said index_reported at

abbrev pub ListStops : List ℕ → SearchOptions → World → StoppedAt → Type 0
ListStops name asked w at = IsUnloaded asked w at ⊎ (IsIndexUnread asked w at ⊎ (BreaksInReport asked w at ⊎ ListStopsReported name asked w at))

-- ---- what a search is asked for: one, or a list

abbrev pub AnyGoesThrough : Option (List ℕ) → SearchOptions → World → World → Status → Type 0
AnyGoesThrough None asked = SearchGoesThrough asked
AnyGoesThrough (Some name) asked = ListGoesThrough name asked

abbrev pub AnyStops : Option (List ℕ) → SearchOptions → World → StoppedAt → Type 0
AnyStops None asked = SearchStops asked
AnyStops (Some name) asked = ListStops name asked
