-- What a call that may run out of memory answers, against what a definition says.
use Rattle.std.specs.Prelude.{Option, Some, None, Result}
use Rattle.base.specs.Answers as answers
use Rattle.schema.specs.declared.code.Code.{Code}
use Rattle.schema.specs.declared.code.Code.TheVariants.{InvalidAttributeSyntax}
use Rattle.schema.specs.declared.fault.PathFault.{PathFault}
use Rattle.schema.specs.declared.fault.PathFault.TheVariants as path_faults
use Rattle.values.specs.declared.value.ValueFault.{ValueFault}
use Rattle.values.specs.declared.value.ValueFault.TheVariants as value_faults
use Rattle.entries.specs.declared.refusal.Refusal.{Refusal}
use Rattle.entries.specs.declared.refusal.Refusal.TheVariants as refusals

abbrev pub fault_of : Refusal → Option Code
fault_of refusals.OutOfMemory = None
fault_of (refusals.Code code) = Some code

-- seen by view, what was answered is what the definition says, unless memory ran out
abbrev pub Gives : {X Y : Type 0} → (X → Y) → Result X Refusal → Result Y Code → Type 0
Gives = answers.Gives fault_of

-- the refusal that a fault comes to
abbrev pub of_path_fault : PathFault → Refusal
of_path_fault (path_faults.Code c) = refusals.Code c
of_path_fault path_faults.OutOfMemory = refusals.OutOfMemory

abbrev pub of_value_fault : ValueFault → Refusal
of_value_fault value_faults.Invalid = refusals.Code InvalidAttributeSyntax
of_value_fault value_faults.OutOfMemory = refusals.OutOfMemory
