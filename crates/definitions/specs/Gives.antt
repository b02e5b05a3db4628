-- What reading a definition answers, against what its text says.
use Rattle.std.specs.Prelude.{◌≡◌, Option, Some, None, Result, Ok, Err}
use Rattle.definitions.specs.declared.fault.DefinitionFault.{DefinitionFault}
use Rattle.definitions.specs.declared.fault.DefinitionFault.TheVariants as faults

abbrev pub Fails : {Y : Type 0} → DefinitionFault → Option Y → Type 0
Fails faults.OutOfMemory said = Unit {0}
Fails faults.Form said = said ≡ None

-- seen by view, what was answered is what the text says, unless memory ran out
abbrev pub Gives : {X Y : Type 0} → (X → Y) → Result X DefinitionFault → Option Y → Type 0
Gives view (Ok x) said = said ≡ Some (view x)
Gives view (Err e) said = Fails e said
