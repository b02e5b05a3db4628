-- What a call that may run out of memory, or whose source may fail, answers, against what a definition says.
use Rattle.std.specs.Prelude.{ℕ, ◌+◌, Option, Some, None, Result, Ok, Err}
use Rattle.base.specs.Answers as answers
use Rattle.stored_index.specs.declared.fault.IndexFault.{IndexFault}
use Rattle.stored_index.specs.declared.fault.IndexFault.TheVariants as faults
use Rattle.stored_index.specs.declared.fault.LineFault.{LineFault}
use Rattle.stored_index.specs.declared.fault.LineFault.TheVariants as lines
use Rattle.stored_index.specs.declared.fault.IndexFaultKind.{IndexFaultKind}

-- what is wrong with a text, if that is why it wasn't read
abbrev pub fault_of : IndexFault → Option IndexFaultKind
fault_of (faults.Fault kind) = Some kind
fault_of faults.Device = None
fault_of faults.OutOfMemory = None

-- the same of lines
abbrev pub kind_of : LineFault → Option IndexFaultKind
kind_of (lines.Fault kind) = Some kind
kind_of lines.OutOfMemory = None

-- seen by view, what was answered is what the definition says, unless memory ran out
abbrev pub Gives : {X Y : Type 0} → (X → Y) → Result X LineFault → Result Y IndexFaultKind → Type 0
Gives = answers.Gives kind_of

-- how often a source has failed behind a call, by what that answers: once more where it says so
abbrev pub failures_by : {X : Type 0} → Result X IndexFault → ℕ → ℕ
failures_by (Ok x) before = before
failures_by (Err (faults.Fault kind)) before = before
failures_by (Err faults.Device) before = before + 1
failures_by (Err faults.OutOfMemory) before = before
