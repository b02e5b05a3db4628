-- What a call that may run out of memory answers, against what a definition says.
use Rattle.std.specs.Prelude.{Option, Some, None, Result}
use Rattle.base.specs.Answers as answers
use Rattle.dn.specs.declared.faults.NameFaultKind.{NameFaultKind}
use Rattle.dn.specs.declared.faults.NameFault.{NameFault}
use Rattle.dn.specs.declared.faults.NameFault.TheVariants as errors

abbrev pub fault_of : NameFault → Option NameFaultKind
fault_of errors.OutOfMemory = None
fault_of (errors.Fault fault) = Some fault

-- seen by view, what was answered is what the definition says, unless memory ran out
abbrev pub Gives : {X Y : Type 0} → (X → Y) → Result X NameFault → Result Y NameFaultKind → Type 0
Gives = answers.Gives fault_of
