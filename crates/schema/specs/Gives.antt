-- What a call that may run out of memory answers, against what a definition says.
use Rattle.std.specs.Prelude.{◌≡◌, Bool, true, false, Option, Some, None, Result, Ok, Err}
use Rattle.base.specs.Answers as answers
use Rattle.schema.specs.declared.code.Code.{Code}
use Rattle.schema.specs.declared.fault.PathFault.{PathFault}
use Rattle.schema.specs.declared.fault.PathFault.TheVariants as faults
use Rattle.values.specs.declared.value.ValueFault.{ValueFault}
use Rattle.values.specs.declared.value.ValueFault.TheVariants as value_faults

abbrev pub fault_of : PathFault → Option Code
fault_of faults.OutOfMemory = None
fault_of (faults.Code code) = Some code

-- seen by view, what was answered is what the definition says, unless memory ran out
abbrev pub Gives : {X Y : Type 0} → (X → Y) → Result X PathFault → Result Y Code → Type 0
Gives = answers.Gives fault_of

abbrev pub FailsToMake : ValueFault → Bool → Type 0
FailsToMake value_faults.OutOfMemory valid = Unit {0}
FailsToMake value_faults.Invalid valid = valid ≡ false

-- a value was made exactly where it is valid, unless memory ran out
abbrev pub Makes : {X : Type 0} → Result X ValueFault → Bool → (X → Type 0) → Type 0
Makes (Ok x) valid P = (valid ≡ true) × P x
Makes (Err e) valid P = FailsToMake e valid
