-- What a call answers, against what reading gives: a value, or the fault that comes first.
use Rattle.std.specs.Prelude.{Option, Some, None, Result}
use Rattle.base.specs.Answers as answers
use Rattle.ldif.specs.declared.fault.LdifFaultKind.{LdifFaultKind}
use Rattle.ldif.specs.declared.fault.LdifFault.{LdifFault}
use Rattle.ldif.specs.declared.fault.LdifFault.TheVariants as errors

abbrev pub fault_of : LdifFault → Option LdifFaultKind
fault_of errors.OutOfMemory = None
fault_of (errors.Fault fault) = Some fault

abbrev pub Gives : {X : Type 0} → Result X LdifFault → Result X LdifFaultKind → Type 0
Gives = answers.Gives fault_of (λ x. x)

-- the same, where the answer is seen by view
abbrev pub GivesBy : {X Y : Type 0} → (X → Y) → Result X LdifFault → Result Y LdifFaultKind → Type 0
GivesBy = answers.Gives fault_of
