-- What check reports of the files in a folder, and of a file over them, and how it ends.
use Rattle.std.specs.Prelude.{◌≡◌, ℕ, ◌+◌, ◌==◌, ◌⊎◌, Bool, true, List, [], ◌∷◌, ◌++◌, if◌then◌else◌, Option, None, Some, IfSome, Result, Ok, Err, codes, string_bytes}
use Rattle.std.specs.Option.{option_copied, option_map}
use Rattle.std.specs.Str.{bytes_eq}
use Rattle.std.specs.Fmt.{decimal}
use Rattle.std.specs.FinMap as finite
use Rattle.base.specs.Ascii.{line_feed}
use Rattle.device.specs.Device.{Seen, Broke}
use Rattle.ldif_lines.specs.Records.{RawRecord, records}
use Rattle.ldif.specs.declared.record.Mode.TheVariants.{Content}
use Rattle.values.specs.declared.types.AttributeType.{AttributeType}
use Rattle.schema.specs.declared.code.Code.TheVariants.{UndefinedAttributeType}
use Rattle.schema.specs.Codes.{code_report}
use Rattle.schema.specs.Conf.{Conf}
use Rattle.dir_conf.specs.ConfFaults.{At}
use Rattle.dir_conf.specs.Configurations.{conf_of}
use Rattle.tree.specs.Directories.{Entries}
use Rattle.checks.specs.declared.conf_faults.FoundFault.{FoundFault}
use Rattle.checks.specs.ConfFaults.{fault_reports}
use Rattle.checks.specs.LeftOut.{AreFaultsOf}
use Rattle.checks.specs.Warnings.{warnings}
use Rattle.checks.specs.IndexDifferences.{difference_of}
use Rattle.checks.specs.TypeNames.{types_named}
use Rattle.checks.specs.Reports.{report, refused_reports, dangling_reports, shared_reports}
use Rattle.stored_index.specs.Faults.{fault_report}
use Rattle.stored_index.specs.Stored.{Stored, index_in}
use Rattle.stored_index.specs.declared.fault.IndexFaultKind.{IndexFaultKind}
use Rattle.databases.specs.IndexTexts.{index_text, stamp}
use Rattle.databases.specs.Runs.{state_after}
use Rattle.databases.specs.Reports as runs
use Rattle.databases.specs.Folds.{Over}
use Rattle.command_line.specs.declared.request.CheckOptions.{CheckOptions}
use Rattle.folders.specs.Folders.{Files, Finds}
use Rattle.commands.specs.Changes.{IsSource, source_name}
use Rattle.commands.specs.DirectoryFiles.{conf_name, data_name, index_name}
use Rattle.commands.specs.Endings.{StoppedAt, HasOnlyPrinted, IsFault}
use Rattle.commands.specs.Failures.{IsMemory, FailsToRead, FailsToWrite}
use Rattle.commands.specs.Lists.{list_source}
use Rattle.commands.specs.Loaded.{IsConfigured}
use Rattle.commands.specs.Messages.{line_of}
use Rattle.commands.specs.Statuses.{status_of_reports}
use Rattle.commands.specs.Texts.{ReadsAtMost}
use Rattle.commands.specs.Worlds.{World, IsPrinted}
use Rattle.commands.specs.declared.messages.CommandFault.{CommandFault}
use Rattle.commands.specs.declared.messages.Status.{Status}
use Rattle.commands.specs.declared.messages.Stop.{Stop}
use Rattle.commands.specs.declared.messages.Stop.TheVariants as stops

-- ---- what is asked for

-- the types that the text of an option names, or the first name that is no type's; without a text, none
abbrev pub types_asked : List AttributeType → Option (List ℕ) → Result (List ℕ) (List ℕ)
types_asked types None = Ok []
types_asked types (Some text) = types_named types text

-- ---- data.ldif

-- each of these records is added over some entries in turn, as slapadd -c does; these entries are left, and this is reported of those that are refused
pub record AddsRecords (conf : Conf) (old : Entries) (given : List RawRecord) (d : Entries) (told : List ℕ) : Type 0 where
  pub entries : d ≡ (state_after conf Content true old given).entries
  pub told_is : told ≡ runs.report (state_after conf Content true old given).refused

-- those of a text
abbrev pub AddsText : Conf → Entries → Option (List ℕ) → Entries → List ℕ → Type 0
AddsText conf old text d told = Over (option_map records text) (λ given. AddsRecords conf old given d told)

-- those of data.ldif over no entry, if it is there
abbrev pub AddsFound : Conf → Option (Option (List ℕ)) → Entries → List ℕ → Type 0
AddsFound conf None d told = (d ≡ finite.empty) × (told ≡ [])
AddsFound conf (Some text) d told = AddsText conf finite.empty text d told

-- ---- FILE, of which the records are added over those of data.ldif

-- the name that it has in what is reported of it
abbrev pub file_name : List ℕ → List ℕ
file_name name = source_name (list_source name)

-- its records are added over some entries, and nothing changes but what is seen of the input
pub record AddsFile (name : List ℕ) (conf : Conf) (old d : Entries) (told : List ℕ) (w w' : World) : Type 0 where
  pub source : Seen
  pub source' : Seen
  pub source_is : IsSource (list_source name) w w' source source'
  pub adds : AddsText conf old source.left d told
  pub stays : w' ≡ record w { input = w'.input }

-- where no file is named, none is
abbrev pub AddsOver : Option (List ℕ) → Conf → Entries → Entries → List ℕ → World → World → Type 0
AddsOver None conf old d told w w' = (d ≡ old) × (told ≡ []) × (w' ≡ w)
AddsOver (Some name) conf old d told w w' = AddsFile name conf old d told w w'

-- ---- index.txt

-- the line on which two texts first differ, from 1
unfoldable pub line_of_difference : List ℕ → List ℕ → ℕ
line_of_difference [] others = 1
line_of_difference (b ∷ bs) [] = 1
line_of_difference (b ∷ bs) (c ∷ cs) = if b == c then (if b == line_feed then 1 else 0) + line_of_difference bs cs else 1

abbrev pub fault_in : Result Stored IndexFaultKind → Option IndexFaultKind
fault_in (Ok stored) = None
fault_in (Err kind) = Some kind

abbrev pub in_brackets : List ℕ → List ℕ
in_brackets [] = []
in_brackets (b ∷ bs) = codes " (" ++ ((b ∷ bs) ++ codes ")")

-- as `line 7: of another dir.conf: run slapindex (slot cn eq, key 626f62)`
abbrev pub other_conf : ℕ → List ℕ → List ℕ
other_conf line place = (codes "line " ++ (decimal line ++ codes ": of another dir.conf: run slapindex")) ++ in_brackets place

-- its fault; or the line on which it isn't the text that slapindex writes, and the slot and key there
abbrev pub index_what : Option IndexFaultKind → ℕ → List ℕ → List ℕ
index_what (Some kind) line place = fault_report kind
index_what None line place = other_conf line place

abbrev pub index_fault : Conf → Entries → List ℕ → Option IndexFaultKind
index_fault conf d text = fault_in (index_in conf (finite.len d) (stamp conf d) text)

-- nothing of the text that slapindex writes
abbrev pub index_report : Conf → Entries → List ℕ → List ℕ
index_report conf d text = if bytes_eq text (index_text conf d) then [] else report (codes "faulty") (codes "index.txt")
    (index_what (index_fault conf d text) (line_of_difference text (index_text conf d)) (difference_of text (index_text conf d)))

-- nothing where there is no such file
abbrev pub index_reports : Conf → Entries → Option (List ℕ) → List ℕ
index_reports conf d None = []
index_reports conf d (Some text) = index_report conf d text

-- ---- what is reported

-- what a run tells of the records of FILE, if one is named
abbrev pub file_reports : Option (List ℕ) → List ℕ → List ℕ
file_reports None told = []
file_reports (Some name) told = refused_reports (file_name name) told

-- what a run tells of data.ldif, what one tells of FILE, and index.txt against data.ldif
abbrev pub record_reports : Conf → Entries → List ℕ → Option (List ℕ) → List ℕ → Option (List ℕ) → List ℕ
record_reports conf loaded told file over index =
    refused_reports (codes "data.ldif") told ++ (file_reports file over ++ index_reports conf loaded index)

-- references, and values of several entries
abbrev pub value_reports : Conf → Entries → List ℕ → List ℕ → List ℕ
value_reports conf d references unique = dangling_reports conf d references ++ shared_reports conf d unique

-- the first faults of the text of a dir.conf, but for those that are left out, and how many these are
pub record TellsFirstFaults (conf_text text : List ℕ) : Type 0 where
  pub found : List FoundFault
  pub has_more : Bool
  pub are : AreFaultsOf conf_text found has_more
  pub text_is : text ≡ fault_reports found has_more

-- of a dir.conf at fault these, and nothing of the other files: what is wrong with those depends on what it says
pub record TellsFaults (asked : CheckOptions) (text : List ℕ) (w w' : World) : Type 0 where
  pub conf_text : List ℕ
  pub there : Finds w.files (conf_name asked.db.now) (Some (Some conf_text))
  pub fault : At
  pub faulty : conf_of conf_text ≡ Err fault
  pub tells : TellsFirstFaults conf_text text
  pub stays : w' ≡ w

-- of the other files, under the configuration that it says: beside the entries of data.ldif index.txt, and with those of FILE over them the values
pub record TellsOthers (asked : CheckOptions) (text : List ℕ) (w w' : World) : Type 0 where
  pub conf : Conf
  pub configured : IsConfigured w.files (conf_name asked.db.now) conf
  pub references : List ℕ
  pub references_are : types_asked conf.types (option_copied asked.references) ≡ Ok references
  pub unique : List ℕ
  pub unique_are : types_asked conf.types (option_copied asked.unique) ≡ Ok unique
  pub found : Option (Option (List ℕ))
  pub there : Finds w.files (data_name asked.db.now) found
  pub loaded : Entries
  pub told : List ℕ
  pub adds : AddsFound conf found loaded told
  pub index : Option (List ℕ)
  pub index_there : Finds w.files (index_name asked.db.now) (option_map (λ bytes. Some bytes) index)
  pub entries : Entries
  pub over : List ℕ
  pub adds_over : AddsOver (option_copied asked.file) conf loaded entries over w w'
  pub text_is : text ≡ record_reports conf loaded told (option_copied asked.file) over index ++ value_reports conf entries references unique

-- this is reported, and nothing changes but what is seen of the input
abbrev pub Checks : CheckOptions → List ℕ → World → World → Type 0
Checks asked text w w' = TellsFaults asked text w w' ⊎ TellsOthers asked text w w'

-- a draft of this name is warned of
abbrev pub draft_warning : List ℕ → List ℕ
draft_warning name = report (codes "warning") name (codes "a draft that a killed run left; the next store removes it")

-- what is warned of in the dir.conf of a folder, whether it has faults or not; and of its files beside their contents, drafts that were left and
-- permissions, of which a folder that tells its files has none
pub record WarnsOf (files : Option Files) (db warned : List ℕ) : Type 0 where
  pub conf_text : List ℕ
  pub there : Finds files (conf_name db) (Some (Some conf_text))
  pub of_files : List ℕ
  pub of_none : IfSome files (λ _. of_files ≡ [])
  pub warned_is : warned ≡ warnings conf_text ++ of_files

-- ---- where it goes through

-- all of it is printed, and nothing else changed; warnings alone leave the status
pub record CheckGoesThrough (asked : CheckOptions) (w w' : World) (s : Status) : Type 0 where
  pub text : List ℕ
  pub warned : List ℕ
  pub mid : World
  pub is : Checks asked text w mid
  pub warns : WarnsOf w.files asked.db.now warned
  pub printed : IsPrinted (text ++ warned) mid w'
  pub status : s ≡ status_of_reports text

-- ---- where it stops

-- dir.conf can't be read; or it says a configuration, and data.ldif or index.txt can't be read; or memory ran out
abbrev pub FolderFails : CheckOptions → Option Files → CommandFault → Type 0
FolderFails asked files fault = FailsToRead (conf_name asked.db.now) fault
    ⊎ (((conf : Conf) × IsConfigured files (conf_name asked.db.now) conf) × (FailsToRead (data_name asked.db.now) fault ⊎ FailsToRead (index_name asked.db.now) fault))

-- FILE can't be read, or memory ran out behind it; at most it was read
pub record FileFails (name : List ℕ) (fault : CommandFault) (w w' : World) : Type 0 where
  pub why : FailsToRead (file_name name) fault
  pub stays : ReadsAtMost (list_source name) w w'

-- one is named, and fails
abbrev pub FailsOver : Option (List ℕ) → CommandFault → World → World → Type 0
FailsOver None fault w w' = ⊥
FailsOver (Some name) fault w w' = FileFails name fault w w'

-- where dir.conf says a configuration
abbrev pub FileFailsUnder : CheckOptions → CommandFault → World → World → Type 0
FileFailsUnder asked fault w w' = ((conf : Conf) × IsConfigured w.files (conf_name asked.db.now) conf) × FailsOver (option_copied asked.file) fault w w'

abbrev pub CheckFails : CheckOptions → CommandFault → World → World → Type 0
CheckFails asked fault w w' = (FolderFails asked w.files fault × (w' ≡ w)) ⊎ FileFailsUnder asked fault w w'

-- the text of an option names a type that isn't known, as `check: uid,mial: 17 undefinedAttributeType`
abbrev pub TellsNoType : List ℕ → Stop → Type 0
TellsNoType named (stops.Usage text) = string_bytes text ≡ line_of (codes "check: " ++ (named ++ (codes ": " ++ code_report UndefinedAttributeType)))
TellsNoType named (stops.Fault fault) = IsMemory fault
TellsNoType named stops.Messages = ⊥

-- a type is named that isn't known under this configuration; or memory ran out
abbrev pub LacksTypes : List AttributeType → Option (List ℕ) → Stop → Type 0
LacksTypes types named (stops.Fault fault) = IsMemory fault
LacksTypes types named why = (text : List ℕ) × (named ≡ Some text) × ((name : List ℕ) × (types_named types text ≡ Err name)) × TellsNoType text why

-- the types of which references are looked at come first
abbrev pub LacksFirst : CheckOptions → List AttributeType → Stop → Type 0
LacksFirst asked types why = LacksTypes types (option_copied asked.references) why
    ⊎ (((references : List ℕ) × (types_asked types (option_copied asked.references) ≡ Ok references)) × LacksTypes types (option_copied asked.unique) why)

pub record LacksTypesAsked (asked : CheckOptions) (files : Option Files) (why : Stop) : Type 0 where
  pub conf : Conf
  pub configured : IsConfigured files (conf_name asked.db.now) conf
  pub lacks : LacksFirst asked conf.types why

abbrev pub IsUncheckable : CheckOptions → Stop → World → World → Type 0
IsUncheckable asked why w w' = IsFault (λ fault. CheckFails asked fault w w') why ⊎ (LacksTypesAsked asked w.files why × (w' ≡ w))

-- so nothing was printed, and nothing stored
abbrev pub IsUnchecked : CheckOptions → World → StoppedAt → Type 0
IsUnchecked asked w at = IsUncheckable asked at.why w at.world × (at.stored ≡ [])

-- it was broken off in what it prints
pub record IsBrokenOff (asked : CheckOptions) (w : World) (at : StoppedAt) : Type 0 where
  pub text : List ℕ
  pub warned : List ℕ
  pub mid : World
  pub is : Checks asked text w mid
  pub warns : WarnsOf w.files asked.db.now warned
  pub why : IsFault (FailsToWrite (codes "output")) at.why
  pub broke : Broke mid.output at.world.output (text ++ warned)
  pub only : HasOnlyPrinted mid at

abbrev pub CheckStops : CheckOptions → World → StoppedAt → Type 0
CheckStops asked w at = IsUnchecked asked w at ⊎ IsBrokenOff asked w at
