-- What failed, where a command fails: a file or a stream, by its name, or memory.
use Rattle.std.specs.Prelude.{◌≡◌, ℕ, List, ⊤, string_bytes}
use Rattle.schema.specs.declared.code.Code.{Code}
use Rattle.commands.specs.declared.messages.CommandFault.{CommandFault}
use Rattle.commands.specs.declared.messages.CommandFault.TheVariants as faults

-- memory ran out
abbrev pub IsMemory : CommandFault → Type 0
IsMemory faults.OutOfMemory = ⊤
IsMemory fault = ⊥

-- what has this name can't be read, or memory ran out
abbrev pub FailsToRead : List ℕ → CommandFault → Type 0
FailsToRead name (faults.CannotRead n) = string_bytes n ≡ name
FailsToRead name fault = IsMemory fault

-- what has this name can't be written, or memory ran out
abbrev pub FailsToWrite : List ℕ → CommandFault → Type 0
FailsToWrite name (faults.CannotWrite n) = string_bytes n ≡ name
FailsToWrite name fault = IsMemory fault

-- the directory in the folder of this name is in use, or memory ran out
abbrev pub TellsInUse : List ℕ → CommandFault → Type 0
TellsInUse name (faults.InUse n) = string_bytes n ≡ name
TellsInUse name fault = IsMemory fault

-- what has this name can't be written
abbrev pub NamesUnwritten : List ℕ → CommandFault → Type 0
NamesUnwritten name (faults.CannotWrite n) = string_bytes n ≡ name
NamesUnwritten name fault = ⊥

-- the command of this name ends with a code of which this holds, or memory ran out
abbrev pub Refuses : List ℕ → (Code → Type 0) → CommandFault → Type 0
Refuses command Holds (faults.Code by code) = (by.now ≡ command) × Holds code
Refuses command Holds fault = IsMemory fault
