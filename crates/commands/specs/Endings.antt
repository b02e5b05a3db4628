-- How a command ends: it goes through, or it stops and reports why.
use Rattle.std.specs.Prelude.{◌≡◌, ◌⊎◌, List, [], string_bytes}
use Rattle.device.specs.Device.{Written}
use Rattle.folders.specs.Folders.{File, with_files}
use Rattle.commands.specs.Worlds.{World}
use Rattle.commands.specs.Messages.{IsTextReported, IsReported, fault_text}
use Rattle.commands.specs.Statuses.{status_of_fault}
use Rattle.commands.specs.declared.messages.Status.{Status}
use Rattle.commands.specs.declared.messages.Status.TheVariants as statuses
use Rattle.commands.specs.declared.messages.CommandFault.{CommandFault}
use Rattle.commands.specs.declared.messages.Stop.{Stop}
use Rattle.commands.specs.declared.messages.Stop.TheVariants as stops

-- How far a command came that stops: why it does, which files it had stored, and the world by then.
pub record StoppedAt : Type 0 where
  pub why : Stop
  pub stored : List File
  pub world : World

-- it had done nothing
pub record IsAtOnce (w : World) (at : StoppedAt) : Type 0 where
  pub stored : at.stored ≡ []
  pub world : at.world ≡ w

-- it had stored nothing, and changed nothing but the output
pub record HasOnlyPrinted (w : World) (at : StoppedAt) : Type 0 where
  pub stored : at.stored ≡ []
  pub stays : at.world ≡ record w { output = at.world.output }

-- why it stops is a fault, of which this holds
abbrev pub IsFault : (CommandFault → Type 0) → Stop → Type 0
IsFault Holds (stops.Fault fault) = Holds fault
IsFault Holds why = ⊥

-- what is reported of it, and the status: nothing, where it is the messages that failed
abbrev pub ReportsStop : Stop → Written → Written → Status → Type 0
ReportsStop (stops.Fault fault) a b s = IsReported a b (fault_text fault) (status_of_fault fault) s
ReportsStop (stops.Usage text) a b s = IsTextReported a b (string_bytes text) statuses.Usage s
ReportsStop stops.Messages a b s = (b ≡ a) × (s ≡ statuses.Failed)

-- The command stops: it came so far, and of all files it had stored these, and changed no other. Then it reports why, and nothing else changes.
pub record Stops (ComesTo : World → StoppedAt → Type 0) (w w' : World) (s : Status) : Type 0 where
  pub at : StoppedAt
  pub comes : ComesTo w at
  pub files : at.world.files ≡ with_files w.files at.stored
  pub reported : ReportsStop at.why at.world.messages w'.messages s
  pub stays : w' ≡ record (at.world) { messages = w'.messages }

-- It goes through, from one world to another and with this status; or it stops.
abbrev pub Ends : (World → World → Status → Type 0) → (World → StoppedAt → Type 0) → World → World → Status → Type 0
Ends GoesThrough ComesTo w w' s = GoesThrough w w' s ⊎ Stops ComesTo w w' s
