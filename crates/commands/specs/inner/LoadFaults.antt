-- The command's fault that a fault of loading the file of this name becomes.
use Rattle.std.specs.Prelude.{◌≡◌, ℕ, List}
use Rattle.databases.specs.declared.loading.LoadFault.{LoadFault}
use Rattle.databases.specs.declared.loading.LoadFault.TheVariants as loads
use Rattle.commands.specs.Failures.{IsMemory, FailsToRead}
use Rattle.commands.specs.declared.messages.CommandFault.{CommandFault}
use Rattle.commands.specs.declared.messages.CommandFault.TheVariants as faults

abbrev pub TellsLoadFault : List ℕ → LoadFault → CommandFault → Type 0
TellsLoadFault name loads.Read f = FailsToRead name f
TellsLoadFault name loads.OutOfMemory f = IsMemory f
TellsLoadFault name (loads.Refused line why) f = f ≡ faults.Data line why
