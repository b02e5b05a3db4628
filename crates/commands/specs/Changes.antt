-- What slapadd and ldapmodify come to: the files that they leave, the report and the status.
use Rattle.std.specs.Prelude.{◌≡◌, ℕ, ◌⊎◌, List, [], Option, None, Some, Result, Ok, Err, ⊤, IfSome, IfErr, if◌then◌else◌, unwrap_or, codes}
use Rattle.std.specs.Option.{option_copied, option_map}
use Rattle.std.specs.FinMap as finite
use Rattle.device.specs.Device.{Seen, GaveSome}
use Rattle.ldif_lines.specs.Records.{records, closed_records}
use Rattle.ldif.specs.declared.record.Mode.TheVariants as modes
use Rattle.schema.specs.Conf.{Conf}
use Rattle.tree.specs.Directories.{Entries}
use Rattle.databases.specs.Faults.{Failures}
use Rattle.databases.specs.FailedReads.{StopsReading}
use Rattle.databases.specs.Folds.{Ran, Runs}
use Rattle.databases.specs.declared.runs.Tally.{Tally}
use Rattle.databases.specs.declared.runs.RunFault.{RunFault}
use Rattle.databases.specs.declared.runs.RunFault.TheVariants as run_faults
use Rattle.command_line.specs.declared.request.AddOptions.{AddOptions}
use Rattle.command_line.specs.declared.request.ModifyOptions.{ModifyOptions}
use Rattle.folders.specs.Folders.{File, Files, Finds, with_files}
use Rattle.commands.specs.Worlds.{World}
use Rattle.commands.specs.Endings.{StoppedAt, IsAtOnce, IsFault}
use Rattle.commands.specs.Loaded.{IsLoaded, LoadsFiles, LoadFails}
use Rattle.commands.specs.Stored.{kept_files, FailsToStore}
use Rattle.commands.specs.Failures.{IsMemory, FailsToRead}
use Rattle.commands.specs.Statuses.{status_of_tally}
use Rattle.commands.specs.declared.changes.Task.{Task}
use Rattle.commands.specs.declared.messages.Status.{Status}
use Rattle.commands.specs.declared.messages.Stop.{Stop}
use Rattle.commands.specs.declared.messages.Stop.TheVariants as stops

-- ---- which records are to run over which directory, and how

abbrev pub add_task : AddOptions → Task
add_task asked = record { db = asked.db; file = asked.file; mode = modes.Content; go_on = asked.go_on; dry_run = asked.dry_run; wait = asked.wait }

abbrev pub modify_task : ModifyOptions → Task
modify_task asked = record { db = asked.db; file = asked.file; mode = modes.Changes asked.add; go_on = asked.go_on; dry_run = asked.dry_run; wait = asked.wait }

-- the folder whose directory they write; in a dry run they write none
abbrev pub written_by : Task → Option (List ℕ)
written_by task = if task.dry_run then None else Some task.db.now

-- ---- a run

-- a run of records: the configuration, the entries before and after, and what it answers
pub record Run : Type 0 where
  pub conf : Conf
  pub old : Entries
  pub new : Entries
  pub answer : Result Tally RunFault

-- The records of the input ran, and their report went to the messages: all of them; or the first ones, until a device or memory failed.
-- Where the input failed, those are the records whose closing empty line it gave.
pub record RunsInput (task : Task) (run : Run) (w w' : World) : Type 0 where
  pub gave : GaveSome w.input w'.input
  pub failures : Failures run.answer w.input.failed w'.input.failed w.messages.failed w'.messages.failed
  pub runs : Runs run.conf task.mode task.go_on run.old run.new (option_map records w.input.left) run.answer w.messages w'.messages
  pub read :
      IfErr run.answer (λ fault. StopsReading fault closed_records run.conf task.mode task.go_on run.old run.new w.input w'.input w.messages w'.messages)
  pub stays : w' ≡ record w { input = w'.input; messages = w'.messages }

-- the source is the input; or it is the file of this name, and then the input stays as it is
abbrev pub IsSource : Option (List ℕ) → World → World → (source source' : Seen) → Type 0
IsSource None w w' source source' = (source ≡ w.input) × (source' ≡ w'.input)
IsSource (Some name) w w' source source' = Finds w.files name (Some source.left) × (w'.input ≡ w.input)

-- a directory was loaded, and the records of the source that is asked for ran over it, as those of the input do
pub record RunsSource (task : Task) (run : Run) (w w' : World) : Type 0 where
  pub loaded : IsLoaded w.files task.db.now run.conf run.old
  pub source : Seen
  pub source' : Seen
  pub source_is : IsSource (option_copied task.file) w w' source source'
  pub ran : RunsInput task run (record w { input = source }) (record w' { input = source' })

-- ---- where it goes through

-- the files that are to be stored, those of the directory that the run left; in a dry run there is none
abbrev pub stored_by : Task → Run → List File
stored_by task run = if task.dry_run then [] else kept_files task.db.now run.conf run.new

-- the records ran, what they left is stored, no other file changed, and the status is that of their counts
pub record RunsAndStores (task : Task) (w w' : World) (s : Status) : Type 0 where
  pub run : Run
  pub tally : Tally
  pub answer_is : run.answer ≡ Ok tally
  pub mid : World
  pub runs : RunsSource task run w mid
  pub stores : w' ≡ record mid { files = with_files mid.files (stored_by task run) }
  pub status : s ≡ status_of_tally tally

-- ---- over files that are known, and an input that is

-- the text of the file of this name, or that of the input
abbrev pub text_of : Files → Option (List ℕ) → Option (List ℕ) → Option (List ℕ)
text_of m None input = input
text_of m (Some name) input = finite.get m name

-- The directory after the text, from the one that dir.conf and data.ldif say: data.ldif is its dump then, index.txt the text of its index, no
-- other file changed, the report and the status are those of the run. In a dry run no file changed.
pub record Changes (task : Task) (m : Files) (w w' : World) (s : Status) : Type 0 where
  pub run : Run
  pub loaded : LoadsFiles m task.db.now run.conf run.old
  pub text : List ℕ
  pub text_is : text_of m (option_copied task.file) w.input.left ≡ Some text
  pub tally : Tally
  pub ran : Ran run.conf task.mode task.go_on run.old run.new (records text) tally w.messages w'.messages
  pub status : s ≡ status_of_tally tally
  pub stored_is : w'.files ≡ with_files (Some m) (stored_by task run)

-- the bytes of the text are known, where the files are: those of the input are asked for only where no file is named
abbrev pub KnowsText : Option (List ℕ) → Option (List ℕ) → Type 0
KnowsText None None = ⊥
KnowsText None (Some bytes) = ⊤
KnowsText (Some name) input = ⊤

-- where the folder tells its files, and the input its bytes, if it is the source
abbrev pub ChangesKnown : Task → World → World → Status → Type 0
ChangesKnown task w w' s = IfSome w.files (λ m. KnowsText (option_copied task.file) w.input.left → Changes task m w w' s)

abbrev pub ChangeGoesThrough : Task → World → World → Status → Type 0
ChangeGoesThrough task w w' s = RunsAndStores task w w' s × ChangesKnown task w w' s

-- ---- where it stops

-- no directory was loaded
abbrev pub IsNotLoaded : Task → World → StoppedAt → Type 0
IsNotLoaded task w at = IsFault (LoadFails w.files task.db.now) at.why × IsAtOnce w at

-- the source can't be opened: it is the file that is named
abbrev pub HasNoSource : Option (List ℕ) → Stop → Type 0
HasNoSource None why = ⊥
HasNoSource (Some name) why = IsFault (FailsToRead name) why

-- a directory was loaded, and then that
pub record IsNotOpened (task : Task) (w : World) (at : StoppedAt) : Type 0 where
  pub conf : Conf
  pub entries : Entries
  pub loaded : IsLoaded w.files task.db.now conf entries
  pub why : HasNoSource (option_copied task.file) at.why
  pub at_once : IsAtOnce w at

-- why it stops where the run was broken off so, over the source of this name
abbrev pub Breaks : RunFault → List ℕ → Stop → Type 0
Breaks (run_faults.Read t) name why = IsFault (FailsToRead name) why
Breaks (run_faults.Write t) name why = why ≡ stops.Messages
Breaks (run_faults.OutOfMemory t) name why = IsFault IsMemory why

-- the name that the source has in what is reported of it
abbrev pub source_name : Option (List ℕ) → List ℕ
source_name file = unwrap_or file (codes "input")

-- the run was broken off, and no file was stored
pub record BreaksOff (task : Task) (w : World) (at : StoppedAt) : Type 0 where
  pub run : Run
  pub fault : RunFault
  pub answer_is : run.answer ≡ Err fault
  pub runs : RunsSource task run w at.world
  pub why : Breaks fault (source_name (option_copied task.file)) at.why
  pub stored : at.stored ≡ []

-- the records ran, and then what they left couldn't be stored
pub record IsNotStored (task : Task) (w : World) (at : StoppedAt) : Type 0 where
  pub run : Run
  pub tally : Tally
  pub answer_is : run.answer ≡ Ok tally
  pub mid : World
  pub runs : RunsSource task run w mid
  pub fails : FailsToStore (stored_by task run) mid at

abbrev pub ChangeStops : Task → World → StoppedAt → Type 0
ChangeStops task w at = IsNotLoaded task w at ⊎ (IsNotOpened task w at ⊎ (BreaksOff task w at ⊎ IsNotStored task w at))
