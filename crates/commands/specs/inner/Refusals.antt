-- The faults that the parts of search and slapcat answer.
use Rattle.std.specs.Prelude.{ℕ, ◌⊎◌, List, Option, Some, codes}
use Rattle.std.specs.Borrow.{Bor}
use Rattle.schema.specs.Conf.{Conf}
use Rattle.tree.specs.Directories.{Entries}
use Rattle.entries.specs.declared.refusal.Refusal.{Refusal}
use Rattle.entries.specs.declared.refusal.Refusal.TheVariants as refusals
use Rattle.commands.specs.Asked.{IsNoFilterFor}
use Rattle.commands.specs.Failures.{IsMemory, FailsToWrite, Refuses}
use Rattle.commands.specs.Queries.{Wanted, CannotMove, IsRefusedWith, target_of}
use Rattle.commands.specs.declared.messages.CommandFault.{CommandFault}
use Rattle.commands.specs.declared.messages.CommandFault.TheVariants as faults

-- the fault of this command that a refusal comes to
abbrev pub refusal_fault : Bor (List ℕ) → Refusal → CommandFault
refusal_fault command (refusals.Code code) = faults.Code command code
refusal_fault command refusals.OutOfMemory = faults.OutOfMemory

-- this is reported of a text that spells no filter, or memory ran out
abbrev pub FilterFails : Option (List ℕ) → CommandFault → Type 0
FilterFails text (faults.Filter fault) = IsNoFilterFor text fault
FilterFails text fault = IsMemory fault

-- what is asked for is refused of the directory, or what is printed to can't be written, or memory ran out
abbrev pub RefusesOrBreaks : Wanted → Conf → Entries → CommandFault → Type 0
RefusesOrBreaks q conf d fault = Refuses q.command (IsRefusedWith q conf d) fault ⊎ FailsToWrite (target_of q.file) fault

-- the directory can't be printed under the suffix that a name spells, or what is printed to can't be written, or memory ran out
abbrev pub MovesNot : List ℕ → Option (List ℕ) → Conf → Entries → CommandFault → Type 0
MovesNot name file conf d fault = Refuses (codes "slapcat") (CannotMove (Some name) conf d) fault ⊎ FailsToWrite (target_of file) fault
