-- What a run that went through ends with.
use Rattle.std.specs.Prelude.{◌≡◌, Bool, false, List, [], ◌∷◌, Option, Some, None, Result, Ok, Err}
use Rattle.ldif_lines.specs.Records.{RawRecord}
use Rattle.ldif.specs.declared.record.Mode.{Mode}
use Rattle.schema.specs.Conf.{Conf}
use Rattle.tree.specs.Directories.{Entries}
use Rattle.databases.specs.Folds.{Over}
use Rattle.databases.specs.Runs.{state_after}
use Rattle.databases.specs.declared.refusal.RefusedRecord.{RefusedRecord}
use Rattle.databases.specs.declared.runs.Ending.{Ending}
use Rattle.databases.specs.declared.loading.LoadFault.{LoadFault}
use Rattle.databases.specs.declared.loading.LoadFault.TheVariants as load_faults
use Rattle.databases.specs.declared.runs.RunFault.{RunFault}
use Rattle.databases.specs.declared.runs.RunFault.TheVariants as faults
use Rattle.databases.specs.declared.runs.Tally.{Tally}

-- its counts
abbrev pub tally_in : Result Ending RunFault → Result Tally RunFault
tally_in (Ok e) = Ok e.tally
tally_in (Err f) = Err f

-- By this record, the only one that was refused. By none where the first one is to end a run: none was refused.
abbrev pub IsEndedBy : Conf → Mode → Bool → Entries → Option (List RawRecord) → Tally → Option RefusedRecord → Type 0
IsEndedBy conf mode go_on d all t None = go_on ≡ false → t.refused ≡ 0
IsEndedBy conf mode go_on d all t (Some x) = Over all (λ given. (state_after conf mode go_on d given).refused ≡ (x.line, x.refusal) ∷ [])

abbrev pub EndsAsTold : Conf → Mode → Bool → Entries → Option (List RawRecord) → Ending → Type 0
EndsAsTold conf mode go_on d all e = IsEndedBy conf mode go_on d all e.tally e.stopped_by

-- ---- loading

-- a run of content records that was broken off, which reports to nowhere
abbrev pub load_fault_of : RunFault → LoadFault
load_fault_of (faults.Read t) = load_faults.Read
load_fault_of (faults.Write t) = load_faults.OutOfMemory
load_fault_of (faults.OutOfMemory t) = load_faults.OutOfMemory
