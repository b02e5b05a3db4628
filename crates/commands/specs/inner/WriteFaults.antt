-- The fault of a command that a failed write to the output becomes.
use Rattle.std.specs.Prelude.{codes}
use Rattle.ldif.specs.declared.write.WriteFault.{WriteFault}
use Rattle.ldif.specs.declared.write.WriteFault.TheVariants as writes
use Rattle.commands.specs.Failures.{IsMemory, FailsToWrite}
use Rattle.commands.specs.declared.messages.CommandFault.{CommandFault}

abbrev pub TellsWriteFault : WriteFault → CommandFault → Type 0
TellsWriteFault writes.Device f = FailsToWrite (codes "output") f
TellsWriteFault writes.OutOfMemory f = IsMemory f
