-- How a command ends.
use Rattle.std.specs.Prelude.{ℕ, zero, suc, Bool, true, false, List, [], ◌∷◌}
use Rattle.databases.specs.declared.runs.Tally.{Tally}
use Rattle.commands.specs.declared.messages.Status.{Status}
use Rattle.commands.specs.declared.messages.Status.TheVariants as statuses
use Rattle.commands.specs.declared.messages.CommandFault.{CommandFault}
use Rattle.commands.specs.declared.messages.CommandFault.TheVariants as faults

-- the exit status of the process
abbrev pub status_number : Status → ℕ
status_number statuses.Done = 0
status_number statuses.Refused = 1
status_number statuses.Usage = 2
status_number statuses.Failed = 3

abbrev pub status_of_count : ℕ → Status
status_of_count zero = statuses.Done
status_of_count (suc n) = statuses.Refused

-- of a run: whether a record was refused
abbrev pub status_of_tally : Tally → Status
status_of_tally t = status_of_count t.refused

-- of a comparison: whether the directories differ
abbrev pub status_of_difference : Bool → Status
status_of_difference true = statuses.Refused
status_of_difference false = statuses.Done

-- of a check: whether something was reported
abbrev pub status_of_reports : List ℕ → Status
status_of_reports [] = statuses.Done
status_of_reports (b ∷ bs) = statuses.Refused

-- a fault of the command line, of a filter or of the configuration is one of usage
abbrev pub status_of_fault : CommandFault → Status
status_of_fault faults.Words = statuses.Usage
status_of_fault (faults.Filter fault) = statuses.Usage
status_of_fault (faults.Line number fault) = statuses.Usage
status_of_fault (faults.LineCode number code) = statuses.Refused
status_of_fault (faults.Code command code) = statuses.Refused
status_of_fault (faults.Configuration line kind) = statuses.Usage
status_of_fault (faults.Data line refusal) = statuses.Failed
status_of_fault (faults.Content name line refusal) = statuses.Failed
status_of_fault (faults.CannotRead name) = statuses.Failed
status_of_fault (faults.CannotWrite name) = statuses.Failed
status_of_fault (faults.InUse name) = statuses.Failed
status_of_fault faults.OutOfMemory = statuses.Failed

-- whether a list goes on behind a line that ended so: where it was refused or is no filter, with -c alone
abbrev pub goes_on : Bool → Status → Bool
goes_on c statuses.Done = true
goes_on c statuses.Refused = c
goes_on c statuses.Usage = c
goes_on c statuses.Failed = false

-- the one with the greater number
abbrev pub worse : Status → Status → Status
worse statuses.Done s = s
worse statuses.Refused statuses.Done = statuses.Refused
worse statuses.Refused s = s
worse statuses.Usage statuses.Failed = statuses.Failed
worse statuses.Usage s = statuses.Usage
worse statuses.Failed s = statuses.Failed
