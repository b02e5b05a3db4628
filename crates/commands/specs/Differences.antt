-- What ldifdiff prints, and how it ends.
use Rattle.std.specs.Prelude.{◌≡◌, ℕ, ◌⊎◌, ⊤, true, false, ◌||◌, is_some, List, [], Option, None, Some, Err, string_bytes, codes}
use Rattle.std.specs.Option.{option_copied, option_map}
use Rattle.std.specs.FinMap as finite
use Rattle.device.specs.Device.{Seen, Took, Broke}
use Rattle.ldif_lines.specs.Records.{records}
use Rattle.paths.specs.Paths.{Path}
use Rattle.schema.specs.Conf.{Conf}
use Rattle.schema.specs.declared.code.Code.{Code}
use Rattle.schema.specs.declared.code.Code.TheVariants.{NoSuchObject}
use Rattle.filter_text.specs.Spells.{FilterContent}
use Rattle.tree.specs.Directories.{Entries}
use Rattle.databases.specs.Folds.{Over}
use Rattle.databases.specs.Loading.{StopsAt}
use Rattle.databases.specs.Runs.{LoadsRecords}
use Rattle.databases.specs.declared.loading.LoadFault.{LoadFault}
use Rattle.databases.specs.declared.loading.LoadFault.TheVariants as loads
use Rattle.databases.specs.declared.refusal.RecordRefusal.{RecordRefusal}
use Rattle.differences.specs.Differences.{Extent}
use Rattle.differences.specs.Comparisons.{extent_by}
use Rattle.differences.specs.Texts.{difference, differs, MayLeadByText}
use Rattle.differences.specs.Obstacles.{HasNoObstacle, LeadsWhereClear}
use Rattle.command_line.specs.declared.request.DiffOptions.{DiffOptions}
use Rattle.commands.specs.Asked.{IsFilter, IsNoFilterFor, base_of, IsBase}
use Rattle.commands.specs.Worlds.{World, IsPrinted}
use Rattle.commands.specs.Messages.{code_text, line_of}
use Rattle.commands.specs.Endings.{StoppedAt, IsAtOnce, IsFault}
use Rattle.commands.specs.Loaded.{IsLoaded, LoadFails}
use Rattle.commands.specs.Failures.{IsMemory, FailsToRead, FailsToWrite}
use Rattle.commands.specs.Queries.{IsBegun}
use Rattle.commands.specs.Changes.{IsSource, HasNoSource, source_name}
use Rattle.commands.specs.Statuses.{status_of_difference}
use Rattle.commands.specs.declared.messages.CommandFault.{CommandFault}
use Rattle.commands.specs.declared.messages.CommandFault.TheVariants as faults
use Rattle.commands.specs.declared.messages.Status.{Status}
use Rattle.commands.specs.declared.messages.Stop.{Stop}
use Rattle.commands.specs.declared.messages.Stop.TheVariants as stops

-- ---- the other directory: the content records of the source that is asked for

-- none of its records is refused, and these are the entries
abbrev pub LoadsSource : Conf → Seen → Entries → Type 0
LoadsSource conf source d = Over (option_map records source.left) (λ given. LoadsRecords conf finite.empty given d)

-- it is loaded from the source, and nothing changes but what is seen of the input
pub record LoadsOther (file : Option (List ℕ)) (conf : Conf) (d : Entries) (w w' : World) : Type 0 where
  pub source : Seen
  pub source' : Seen
  pub source_is : IsSource file w w' source source'
  pub loads : LoadsSource conf source d
  pub stays : w' ≡ record w { input = w'.input }

-- the fault that is told of a record that is refused in the file or the stream of this name; or memory ran out
abbrev pub TellsRefusal : List ℕ → ℕ → RecordRefusal → CommandFault → Type 0
TellsRefusal name line why (faults.Content n l r) = (string_bytes n ≡ name) × (l ≡ line) × (r ≡ why)
TellsRefusal name line why fault = IsMemory fault

abbrev pub TellsContentFault : List ℕ → LoadFault → CommandFault → Type 0
TellsContentFault name loads.Read f = FailsToRead name f
TellsContentFault name loads.OutOfMemory f = IsMemory f
TellsContentFault name (loads.Refused line why) f = TellsRefusal name line why f

-- it isn't loaded from this source, whose name is told
pub record SourceFails (conf : Conf) (name : List ℕ) (source : Seen) (fault : CommandFault) : Type 0 where
  pub why : LoadFault
  pub stops : StopsAt why conf finite.empty (option_map records source.left)
  pub told : TellsContentFault name why fault

-- it isn't loaded from the source that is asked for
pub record FailsInSource (file : Option (List ℕ)) (conf : Conf) (fault : CommandFault) (w w' : World) : Type 0 where
  pub source : Seen
  pub source' : Seen
  pub source_is : IsSource file w w' source source'
  pub fails : SourceFails conf (source_name file) source fault
  pub stays : w' ≡ record w { input = w'.input }

-- the source can't be opened, and nothing changed; or it doesn't load
abbrev pub LacksOther : Option (List ℕ) → Conf → CommandFault → World → World → Type 0
LacksOther file conf fault w w' = (HasNoSource file (stops.Fault fault) × (w' ≡ w)) ⊎ FailsInSource file conf fault w w'

-- ---- what is compared

-- the filter that is asked for, as it is read; without a text there is none
abbrev pub IsWantedFilter : Option (List ℕ) → Option FilterContent → Type 0
IsWantedFilter None None = ⊤
IsWantedFilter None (Some f) = ⊥
IsWantedFilter (Some text) None = ⊥
IsWantedFilter (Some text) (Some f) = IsFilter (Some text) f

-- what is compared is what the options ask for: at and below the base, where the filter is True of an entry in one of the two directories
pub record IsWantedExtent (asked : DiffOptions) (conf : Conf) (a b : Entries) (extent : Extent) : Type 0 where
  pub base : Path
  pub base_is : IsBase conf (option_copied asked.base) base
  -- where one is asked for, one of the two directories has an entry there
  pub base_there : is_some asked.base ≡ true → (finite.contains_key a base || finite.contains_key b base) ≡ true
  pub filter : Option FilterContent
  pub filter_is : IsWantedFilter (option_copied asked.filter) filter
  pub is : extent ≡ extent_by asked.unordered base filter conf a b

-- ---- where it goes through

-- Standard error got this text, in which no line stands only where nothing keeps the changes from being carried out.
pub record Warns (conf : Conf) (extent : Extent) (a b : Entries) (text : List ℕ) (w w' : World) : Type 0 where
  pub took : Took w.messages w'.messages text
  pub clear : text ≡ [] → HasNoObstacle conf extent a b
  pub stays : w' ≡ record w { messages = w'.messages }

-- The text was printed of the changes that make the second directory of the first, and the status says whether they differ. ldapmodify with that
-- text refuses none, and leaves what is to be there, but for the attributes that users can't change: where that is a directory of which the classes
-- ask for nothing that users can't change, and so where nothing is warned of.
pub record ComparesTo (asked : DiffOptions) (conf : Conf) (before after : Entries) (w w' : World) (s : Status) : Type 0 where
  pub extent : Extent
  pub extent_is : IsWantedExtent asked conf before after extent
  pub told : List ℕ
  pub warned : World
  pub warns : Warns conf extent before after told w warned
  pub printed : IsPrinted (difference conf extent before after) warned w'
  pub status : s ≡ status_of_difference (differs conf extent before after)
  pub leads : MayLeadByText conf extent before after
  pub leads_where_clear : LeadsWhereClear conf extent before after

-- both directories were loaded under one configuration
pub record DiffGoesThrough (asked : DiffOptions) (w w' : World) (s : Status) : Type 0 where
  pub conf : Conf
  pub before : Entries
  pub after : Entries
  pub loaded : IsLoaded w.files asked.db.now conf before
  pub mid : World
  pub other : LoadsOther (option_copied asked.file) conf after w mid
  pub compares : ComparesTo asked conf before after mid w' s

-- ---- where it stops

-- a directory was loaded, and the other one isn't
pub record HasNoOther (asked : DiffOptions) (w : World) (at : StoppedAt) : Type 0 where
  pub conf : Conf
  pub before : Entries
  pub loaded : IsLoaded w.files asked.db.now conf before
  pub fault : CommandFault
  pub fault_is : at.why ≡ stops.Fault fault
  pub lacks : LacksOther (option_copied asked.file) conf fault w at.world
  pub stored : at.stored ≡ []

-- neither directory has an entry where the name leads to
pub record IsInNeither (conf : Conf) (a b : Entries) (name : Option (List ℕ)) : Type 0 where
  pub base : Path
  pub base_is : IsBase conf name base
  pub not_first : finite.contains_key a base ≡ false
  pub not_second : finite.contains_key b base ≡ false

-- the code where there is no base: that of a name that leads nowhere under the configuration, or 32 where neither directory has an entry
abbrev pub LacksBoth : Conf → Entries → Entries → Option (List ℕ) → Code → Type 0
LacksBoth conf a b name code = (base_of conf name ≡ Err code) ⊎ (IsInNeither conf a b name × (code ≡ NoSuchObject))

-- a code of which this holds is told as a fault of the command line, or memory ran out
abbrev pub TellsNoBase : (Code → Type 0) → Stop → Type 0
TellsNoBase Holds (stops.Usage text) = (code : Code) × Holds code × (string_bytes text ≡ line_of (code_text (codes "ldifdiff") code))
TellsNoBase Holds (stops.Fault fault) = IsMemory fault
TellsNoBase Holds stops.Messages = ⊥

-- a beginning of the text was printed, behind what was warned of, when the output failed or memory ran out
pub record IsCutOff (asked : DiffOptions) (conf : Conf) (before after : Entries) (w : World) (at : StoppedAt) : Type 0 where
  pub extent : Extent
  pub extent_is : IsWantedExtent asked conf before after extent
  pub told : List ℕ
  pub warned : World
  pub warns : Warns conf extent before after told w warned
  pub fault : CommandFault
  pub fault_is : at.why ≡ stops.Fault fault
  pub fails : FailsToWrite (codes "output") fault
  pub begun : IsBegun fault warned.output at.world.output (difference conf extent before after)
  pub stays : at.world ≡ record warned { output = at.world.output }

-- standard error failed when something was warned of
pub record IsUnheard (w : World) (at : StoppedAt) : Type 0 where
  pub why : at.why ≡ stops.Messages
  pub text : List ℕ
  pub broke : Broke w.messages at.world.messages text
  pub stays : at.world ≡ record w { messages = at.world.messages }

-- nothing was printed or told
pub record IsBefore (why : Stop → Type 0) (w : World) (at : StoppedAt) : Type 0 where
  pub why_is : why at.why
  pub stays : at.world ≡ w

-- both were loaded, and then it stops: at the base, or where memory runs out; with what is warned of; or in what is printed
abbrev pub ComparingStops : DiffOptions → Conf → Entries → Entries → World → StoppedAt → Type 0
ComparingStops asked conf a b w at =
    IsBefore (TellsNoBase (LacksBoth conf a b (option_copied asked.base))) w at ⊎ (IsUnheard w at ⊎ IsCutOff asked conf a b w at)

pub record IsStopped (asked : DiffOptions) (w : World) (at : StoppedAt) : Type 0 where
  pub conf : Conf
  pub before : Entries
  pub after : Entries
  pub loaded : IsLoaded w.files asked.db.now conf before
  pub mid : World
  pub other : LoadsOther (option_copied asked.file) conf after w mid
  pub stops : ComparingStops asked conf before after mid at
  pub stored : at.stored ≡ []

-- the filter is none, or no directory was loaded
abbrev pub DiffFails : DiffOptions → World → CommandFault → Type 0
DiffFails asked w (faults.Filter fault) = IsNoFilterFor (option_copied asked.filter) fault
DiffFails asked w fault = LoadFails w.files asked.db.now fault

abbrev pub DiffStops : DiffOptions → World → StoppedAt → Type 0
DiffStops asked w at = (IsFault (DiffFails asked w) at.why × IsAtOnce w at) ⊎ (HasNoOther asked w at ⊎ IsStopped asked w at)
