-- What slapcat and search print, and how they end.
use Rattle.std.specs.Prelude.{◌≡◌, ℕ, ◌⊎◌, Bool, true, false, ◌&&◌, List, [], ◌∷◌, ◌++◌, length, Option, None, Some, Ok, Err, ⊤, is_none, is_some, map, if◌then◌else◌, codes}
use Rattle.std.specs.Fmt.{decimal}
use Rattle.base.specs.Ascii.{line_feed}
use Rattle.std.specs.Option.{option_copied}
use Rattle.std.specs.FinMap as finite
use Rattle.device.specs.Device.{Broke}
use Rattle.paths.specs.Paths.{Path}
use Rattle.schema.specs.Conf.{Conf}
use Rattle.schema.specs.declared.code.Code.TheVariants.{SizeLimitExceeded}
use Rattle.entries.specs.Entries.{EntryContent}
use Rattle.tree.specs.Directories.{Entries}
use Rattle.databases.specs.Scanned.{scan}
use Rattle.stored_index.specs.declared.fault.IndexFaultKind.{IndexFaultKind}
use Rattle.databases.specs.Selections.{Selection}
use Rattle.databases.specs.Found.{up_to, limited_text, goes_past}
use Rattle.databases.specs.IndexTexts.{index_text}
use Rattle.databases.specs.Runs.{dump_to, LoadsBackAt}
use Rattle.suffixes.specs.Configurations.{conf_under}
use Rattle.suffixes.specs.MovedDirectories.{move_by, moved_directory}
use Rattle.command_line.specs.declared.request.CatOptions.{CatOptions}
use Rattle.command_line.specs.declared.request.SearchOptions.{SearchOptions}
use Rattle.commands.specs.Asked.{IsBase, IsSelection}
use Rattle.folders.specs.Folders.{Files, with_file}
use Rattle.commands.specs.DirectoryFiles.{IsForeign}
use Rattle.commands.specs.Worlds.{World, IsPrinted, Reports}
use Rattle.commands.specs.Endings.{StoppedAt, IsFault}
use Rattle.commands.specs.Messages.{code_text, line_of}
use Rattle.commands.specs.IndexFiles.{Said, said_by, SaysOf, found_by, index_fault_text, IsFaultReported}
use Rattle.commands.specs.Loaded.{IsLoaded}
use Rattle.commands.specs.Excerpts.{excerpt_text}
use Rattle.commands.specs.Queries.{Wanted, Basis, HasBasis, QueryStops}
use Rattle.commands.specs.declared.messages.CommandFault.{CommandFault}
use Rattle.commands.specs.declared.messages.CommandFault.TheVariants as faults
use Rattle.commands.specs.declared.messages.Status.{Status}
use Rattle.commands.specs.declared.messages.Status.TheVariants.{Done, Refused}
use Rattle.commands.specs.declared.messages.Stop.TheVariants as stops

-- ---- slapcat

-- a base that is named has to be there
abbrev pub cat_wanted : CatOptions → Wanted
cat_wanted asked = record {
  command = codes "slapcat";
  db = asked.db.now;
  filter = option_copied asked.filter;
  base = option_copied asked.base;
  needs_base = is_some asked.base;
  suffix = option_copied asked.suffix;
  needs_index = false;
  file = option_copied asked.file;
}

-- whether all entries are asked for
abbrev pub is_whole : CatOptions → Bool
is_whole asked = is_none asked.filter && is_none asked.base

-- the entries at the base that is asked for, which is there, and below it, of which the filter is True
pub record IsExcerpt (asked : CatOptions) (basis : Basis) (text : List ℕ) : Type 0 where
  pub base : Path
  pub base_is : IsBase basis.conf (option_copied asked.base) base
  pub there : is_some asked.base ≡ true → finite.contains_key basis.entries base ≡ true
  pub text_is : text ≡ excerpt_text asked.width basis.conf basis.entries base basis.filter

-- the text of a directory, or of the excerpt that is asked for
abbrev pub IsCatText : Bool → CatOptions → Basis → List ℕ → Type 0
IsCatText true asked basis text = text ≡ dump_to asked.width basis.conf basis.entries
IsCatText false asked basis text = IsExcerpt asked basis text

-- the text of a directory under the suffix that a name spells; it loads under a configuration that has that suffix
pub record IsMovedText (width : ℕ) (name : List ℕ) (conf : Conf) (d : Entries) (text : List ℕ) : Type 0 where
  pub new : Conf
  pub entries : Entries
  pub new_is : conf_under conf name ≡ Ok new
  pub entries_are : moved_directory (move_by conf new name d) ≡ Ok entries
  pub text_is : text ≡ dump_to width new entries
  pub loads : LoadsBackAt width new entries

-- under the directory's own suffix, or the one that is asked for
abbrev pub IsTextUnder : Option (List ℕ) → CatOptions → Basis → List ℕ → Type 0
IsTextUnder None asked basis text = IsCatText (is_whole asked) asked basis text
IsTextUnder (Some name) asked basis text = IsMovedText asked.width name basis.conf basis.entries text

-- that of the directory that was loaded
abbrev pub CatText : CatOptions → Option Files → List ℕ → Type 0
CatText asked files text = HasBasis (cat_wanted asked) files (λ basis. IsTextUnder (option_copied asked.suffix) asked basis text)

-- a text is printed, or is stored as the file of this name, which is none of the directory's own; nothing else changes
abbrev pub Puts : List ℕ → Option (List ℕ) → List ℕ → World → World → Type 0
Puts db None text w w' = IsPrinted text w w'
Puts db (Some name) text w w' = IsForeign db name × (w' ≡ record w { files = with_file w.files name text })

-- so it is with a text of which this holds
pub record HasPut (IsText : List ℕ → Type 0) (db : List ℕ) (file : Option (List ℕ)) (w w' : World) : Type 0 where
  pub text : List ℕ
  pub is : IsText text
  pub put : Puts db file text w w'

-- where it goes through, it reports nothing
abbrev pub CatGoesThrough : CatOptions → World → World → Status → Type 0
CatGoesThrough asked w w' s = (s ≡ Done) × HasPut (CatText asked w.files) asked.db.now (option_copied asked.file) w w'

abbrev pub CatStops : CatOptions → World → StoppedAt → Type 0
CatStops asked w at = QueryStops (cat_wanted asked) (CatText asked w.files) w at

-- ---- search

abbrev pub search_wanted : SearchOptions → Wanted
search_wanted asked = record {
  command = codes "search";
  db = asked.db.now;
  filter = option_copied asked.filter;
  base = option_copied asked.base;
  needs_base = true;
  suffix = None;
  needs_index = true;
  file = None;
}

-- how many entries were found, up to the limit; or their records with these attributes
abbrev pub shown_text : SearchOptions → Conf → Entries → Selection → List (Path × EntryContent) → List ℕ
shown_text asked conf d s es =
    if asked.count then decimal (length (up_to asked.limit es)) ++ line_feed ∷ [] else limited_text asked.width conf d s asked.limit es

-- What the filter finds from the base on by what index.txt says, up to the limit, as it is asked for; and whether there is more. Where its text is that of the directory's index, that is all that the filter finds.
pub record IsFoundText (asked : SearchOptions) (said : Said) (basis : Basis) (past : Bool) (text : List ℕ) : Type 0 where
  pub base : Path
  pub selection : Selection
  pub base_is : IsBase basis.conf (option_copied asked.base) base
  pub there : finite.contains_key basis.entries base ≡ true
  pub selects : IsSelection basis.conf (map (λ w. w.now) asked.attributes.items) selection
  pub past_is : past ≡ goes_past asked.limit (found_by said basis.conf basis.entries base asked.scope basis.filter)
  pub text_is : text ≡ shown_text asked basis.conf basis.entries selection (found_by said basis.conf basis.entries base asked.scope basis.filter)
  pub whole : said ≡ said_by basis.conf basis.entries (Some (index_text basis.conf basis.entries))
      → found_by said basis.conf basis.entries base asked.scope basis.filter ≡ scan basis.conf basis.entries base asked.scope basis.filter

-- that of the directory that was loaded, with its index.txt
abbrev pub SearchText : SearchOptions → Option Files → Said → Bool → List ℕ → Type 0
SearchText asked files said past text = HasBasis (search_wanted asked) files (λ basis. SaysOf files asked.db.now basis.conf basis.entries said × IsFoundText asked said basis past text)

-- where there is more than the limit, the code is 4, and it is reported
abbrev pub ReportsPast : Bool → World → World → Status → Type 0
ReportsPast false w w' s = (s ≡ Done) × (w' ≡ w)
ReportsPast true w w' s = Reports (code_text (codes "search") SizeLimitExceeded) Refused w w' s

-- a fault of index.txt was reported, if it has one; then the text was printed; then it was reported whether there is more
pub record SearchGoesThrough (asked : SearchOptions) (w w' : World) (s : Status) : Type 0 where
  pub said : Said
  pub past : Bool
  pub text : List ℕ
  pub is : SearchText asked w.files said past text
  pub index_reported : World
  pub reports : IsFaultReported said w index_reported
  pub mid : World
  pub printed : IsPrinted text index_reported mid
  pub reported : ReportsPast past mid w' s

-- a directory was loaded whose index.txt says this
pub record IsSaid (asked : SearchOptions) (files : Option Files) (said : Said) : Type 0 where
  pub conf : Conf
  pub entries : Entries
  pub loaded : IsLoaded files asked.db.now conf entries
  pub says : SaysOf files asked.db.now conf entries said

-- a fault that is met before anything is reported of index.txt: the base is looked up, and the text printed, afterwards
abbrev pub ComesFirst : CommandFault → Type 0
ComesFirst (faults.Code by code) = ⊥
ComesFirst (faults.CannotWrite name) = ⊥
ComesFirst fault = ⊤

-- one that is met afterwards
abbrev pub ComesLater : CommandFault → Type 0
ComesLater (faults.Code by code) = ⊤
ComesLater (faults.CannotWrite name) = ⊤
ComesLater faults.OutOfMemory = ⊤
ComesLater fault = ⊥

-- it stops with such a fault, before it reports anything of index.txt
pub record StopsUnreported (asked : SearchOptions) (w : World) (at : StoppedAt) : Type 0 where
  pub stops : QueryStops (search_wanted asked) (λ text. ⊥) w at
  pub first : IsFault ComesFirst at.why

-- or with one of the others afterwards, having printed so much
pub record StopsReported (asked : SearchOptions) (w : World) (at : StoppedAt) : Type 0 where
  pub said : Said
  pub is : IsSaid asked w.files said
  pub index_reported : World
  pub reports : IsFaultReported said w index_reported
  pub stops : QueryStops (search_wanted asked) (λ text. (past : Bool) × SearchText asked w.files said past text) index_reported at
  pub later : IsFault ComesLater at.why

-- or while it reports a fault of it
pub record BreaksInReport (asked : SearchOptions) (w : World) (at : StoppedAt) : Type 0 where
  pub fault : IndexFaultKind
  pub is : IsSaid asked w.files (Some (Err fault))
  pub why : at.why ≡ stops.Messages
  pub stored : at.stored ≡ []
  pub broke : Broke w.messages at.world.messages (line_of (index_fault_text fault))
  pub stays : at.world ≡ record w { messages = at.world.messages }

abbrev pub SearchStops : SearchOptions → World → StoppedAt → Type 0
SearchStops asked w at = StopsUnreported asked w at ⊎ (StopsReported asked w at ⊎ BreaksInReport asked w at)
