-- What a command comes to, by what its words ask for.
use Rattle.std.specs.Prelude.{◌≡◌, ℕ, ◌≤◌, List, length, Option, None, Some, Result, Ok, Err, IfOk, IfErr, string_bytes, codes}
use Rattle.std.specs.Option.{option_copied}
use Rattle.device.specs.Device.{Broke}
use Rattle.command_line.specs.Requests.{AsksForHelp, AskFor, IsFaultOf}
use Rattle.command_line.specs.declared.request.Request.{Request}
use Rattle.command_line.specs.declared.request.Request.TheVariants.{Help, Add, Modify, Index, Search, Cat, Diff, Check, Sort, Schema}
use Rattle.command_line.specs.declared.request.UsageFault.{UsageFault}
use Rattle.command_line.specs.declared.request.UsageFault.TheVariants.{Words, OutOfMemory}
use Rattle.commands.specs.Worlds.{World, IsPrinted}
use Rattle.commands.specs.Endings.{StoppedAt, IsAtOnce, HasOnlyPrinted, IsFault}
use Rattle.commands.specs.Locked.{EndsUnder}
use Rattle.commands.specs.Failures.{IsMemory, FailsToWrite}
use Rattle.commands.specs.Changes.{add_task, modify_task, written_by, ChangeGoesThrough, ChangeStops}
use Rattle.commands.specs.Indexing.{IndexGoesThrough, IndexStops}
use Rattle.commands.specs.Prints.{CatGoesThrough, CatStops}
use Rattle.commands.specs.Lists.{AnyGoesThrough, AnyStops}
use Rattle.commands.specs.Differences.{DiffGoesThrough, DiffStops}
use Rattle.commands.specs.Checks.{CheckGoesThrough, CheckStops}
use Rattle.commands.specs.Sorting.{SortGoesThrough, SortStops}
use Rattle.commands.specs.Schemas.{SchemaGoesThrough, SchemaStops}
use Rattle.commands.specs.Statuses.{status_number}
use Rattle.commands.specs.declared.messages.Status.{Status}
use Rattle.commands.specs.declared.messages.Status.TheVariants.{Done}
use Rattle.commands.specs.declared.messages.Stop.TheVariants as stops

-- ---- help, and faults of the words

-- the help was printed
abbrev pub HelpGoesThrough : List ℕ → World → World → Status → Type 0
HelpGoesThrough text w w' s = (s ≡ Done) × IsPrinted text w w'

-- it was broken off
pub record HelpStops (text : List ℕ) (w : World) (at : StoppedAt) : Type 0 where
  pub why : IsFault (FailsToWrite (codes "output")) at.why
  pub broke : Broke w.output at.world.output text
  pub only : HasOnlyPrinted w at

-- the words are at fault, and this text says how; or memory ran out
abbrev pub WordsStop : UsageFault → World → StoppedAt → Type 0
WordsStop (Words text) w at = (at.why ≡ stops.Usage text) × IsAtOnce w at
WordsStop OutOfMemory w at = IsFault IsMemory at.why × IsAtOnce w at

-- ---- what is asked for

abbrev pub RequestGoesThrough : Result Request UsageFault → World → World → Status → Type 0
RequestGoesThrough (Ok (Help text)) = HelpGoesThrough (string_bytes text)
RequestGoesThrough (Ok (Add asked)) = ChangeGoesThrough (add_task asked)
RequestGoesThrough (Ok (Modify asked)) = ChangeGoesThrough (modify_task asked)
RequestGoesThrough (Ok (Index asked)) = IndexGoesThrough asked
RequestGoesThrough (Ok (Search asked)) = AnyGoesThrough (option_copied asked.file) asked
RequestGoesThrough (Ok (Cat asked)) = CatGoesThrough asked
RequestGoesThrough (Ok (Diff asked)) = DiffGoesThrough asked
RequestGoesThrough (Ok (Check asked)) = CheckGoesThrough asked
RequestGoesThrough (Ok (Sort asked)) = SortGoesThrough asked
RequestGoesThrough (Ok (Schema asked)) = SchemaGoesThrough asked
RequestGoesThrough (Err fault) = λ w w' s. ⊥

abbrev pub RequestStops : Result Request UsageFault → World → StoppedAt → Type 0
RequestStops (Ok (Help text)) = HelpStops (string_bytes text)
RequestStops (Ok (Add asked)) = ChangeStops (add_task asked)
RequestStops (Ok (Modify asked)) = ChangeStops (modify_task asked)
RequestStops (Ok (Index asked)) = IndexStops asked
RequestStops (Ok (Search asked)) = AnyStops (option_copied asked.file) asked
RequestStops (Ok (Cat asked)) = CatStops asked
RequestStops (Ok (Diff asked)) = DiffStops asked
RequestStops (Ok (Check asked)) = CheckStops asked
RequestStops (Ok (Sort asked)) = SortStops asked
RequestStops (Ok (Schema asked)) = SchemaStops asked
RequestStops (Err fault) = WordsStop fault

-- the folder whose directory is to be written, if one is
abbrev pub writes_in : Result Request UsageFault → Option (List ℕ)
writes_in (Ok (Help text)) = None
writes_in (Ok (Add asked)) = written_by (add_task asked)
writes_in (Ok (Modify asked)) = written_by (modify_task asked)
writes_in (Ok (Index asked)) = Some asked.db.now
writes_in (Ok (Search asked)) = None
writes_in (Ok (Cat asked)) = None
writes_in (Ok (Diff asked)) = None
writes_in (Ok (Check asked)) = None
writes_in (Ok (Sort asked)) = None
writes_in (Ok (Schema asked)) = None
writes_in (Err fault) = None

-- What was asked for was done, under a lock where a directory is written, or the command stopped, and this is the number of its status.
pub record RequestEnds (asked : Result Request UsageFault) (w w' : World) (number : ℕ) : Type 0 where
  pub status : Status
  pub ends : EndsUnder (writes_in asked) (RequestGoesThrough asked) (RequestStops asked) w w' status
  pub number_is : number ≡ status_number status

-- The words, the first of which is the program's name, asked for this, or this is wrong with them; and so it ended.
pub record CommandEnds (words : List (List ℕ)) (w w' : World) (number : ℕ) : Type 0 where
  pub asked : Result Request UsageFault
  pub asks : IfOk asked (AskFor words)
  pub faulty : IfErr asked (IsFaultOf words)
  pub help : length words ≤ 1 → AsksForHelp asked
  pub ended : RequestEnds asked w w' number
