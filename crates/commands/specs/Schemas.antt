-- schema: lines of a dir.conf are printed, made of a server's schema.
use Rattle.std.specs.Prelude.{◌≡◌, ℕ, Bool, ◌⊎◌, if◌then◌else◌, List, [], Option, Some, None, Err, codes}
use Rattle.std.specs.Option.{option_copied}
use Rattle.device.specs.Device.{Broke}
use Rattle.folders.specs.Folders.{Files, Finds}
use Rattle.dir_conf.specs.Configurations.{definitions_of}
use Rattle.command_line.specs.declared.request.SchemaOptions.{SchemaOptions}
use Rattle.server_schema.specs.declared.transfer.Transfer.{Transfer}
use Rattle.server_schema.specs.Transfers.{IsTold}
use Rattle.commands.specs.DirectoryFiles.{conf_name}
use Rattle.commands.specs.Endings.{StoppedAt, HasOnlyPrinted, IsAtOnce, IsFault}
use Rattle.commands.specs.Failures.{IsMemory, FailsToRead, FailsToWrite}
use Rattle.commands.specs.Texts.{ReadsText, IsUnread}
use Rattle.commands.specs.Worlds.{World, IsPrinted}
use Rattle.commands.specs.declared.messages.Status.{Status}
use Rattle.commands.specs.declared.messages.Status.TheVariants.{Done, Refused}
use Rattle.commands.specs.declared.messages.CommandFault.{CommandFault}
use Rattle.commands.specs.declared.messages.CommandFault.TheVariants as faults

-- the text of the dir.conf in the folder of this name; without a folder nothing
abbrev pub IsConfText : Option Files → Option (List ℕ) → List ℕ → Type 0
IsConfText files None text = text ≡ []
IsConfText files (Some db) text = Finds files (conf_name db) (Some (Some text))

abbrev pub ConfTextFails : Option (List ℕ) → CommandFault → Type 0
ConfTextFails None fault = IsMemory fault
ConfTextFails (Some db) fault = FailsToRead (conf_name db) fault

-- what is printed of a schema's text, and whether nothing is lost
abbrev pub IsTransferredFor : List ℕ → List ℕ → Transfer → Type 0
IsTransferredFor source conf t = IsTold source conf t.lines.items t.is_whole

-- a definition of the dir.conf is at fault, or memory ran out
abbrev pub FailsToTransfer : List ℕ → CommandFault → Type 0
FailsToTransfer conf (faults.Configuration line kind) = definitions_of conf ≡ Err (line, kind)
FailsToTransfer conf fault = IsMemory fault

-- 1 where a definition was changed or left out
abbrev pub status_of_transfer : Bool → Status
status_of_transfer is_whole = if is_whole then Done else Refused

-- the dir.conf and a text were read, and what the text's schema comes to behind the dir.conf was printed
pub record SchemaGoesThrough (asked : SchemaOptions) (w w' : World) (s : Status) : Type 0 where
  pub conf : List ℕ
  pub source : List ℕ
  pub transfer : Transfer
  pub mid : World
  pub conf_is : IsConfText w.files (option_copied asked.db) conf
  pub reads : ReadsText (option_copied asked.file) source w mid
  pub transferred : IsTransferredFor source conf transfer
  pub printed : IsPrinted transfer.lines.items mid w'
  pub status : s ≡ status_of_transfer transfer.is_whole

-- nothing was done, since the dir.conf can't be read
pub record IsConfUnread (asked : SchemaOptions) (w : World) (at : StoppedAt) : Type 0 where
  pub why : IsFault (ConfTextFails (option_copied asked.db)) at.why
  pub at_once : IsAtOnce w at

-- the text was read, and a definition of the dir.conf is at fault, or memory ran out
pub record IsConfFaulty (asked : SchemaOptions) (w : World) (at : StoppedAt) : Type 0 where
  pub conf : List ℕ
  pub conf_is : IsConfText w.files (option_copied asked.db) conf
  pub source : List ℕ
  pub reads : ReadsText (option_copied asked.file) source w at.world
  pub why : IsFault (FailsToTransfer conf) at.why
  pub stored : at.stored ≡ []

-- printing was broken off
pub record IsSchemaBrokenOff (asked : SchemaOptions) (w : World) (at : StoppedAt) : Type 0 where
  pub conf : List ℕ
  pub source : List ℕ
  pub transfer : Transfer
  pub mid : World
  pub conf_is : IsConfText w.files (option_copied asked.db) conf
  pub reads : ReadsText (option_copied asked.file) source w mid
  pub transferred : IsTransferredFor source conf transfer
  pub why : IsFault (FailsToWrite (codes "output")) at.why
  pub broke : Broke mid.output at.world.output transfer.lines.items
  pub only : HasOnlyPrinted mid at

abbrev pub SchemaStops : SchemaOptions → World → StoppedAt → Type 0
SchemaStops asked w at = IsConfUnread asked w at ⊎ (IsUnread (option_copied asked.file) w at ⊎ (IsConfFaulty asked w at ⊎ IsSchemaBrokenOff asked w at))
