-- What a call that may run out of memory answers, against what a definition says.
use Rattle.std.specs.Prelude.{ℕ, List, Option, Some, None, Result}
use Rattle.base.specs.Answers as answers
use Rattle.checks.specs.declared.type_names.TypesFault.{TypesFault}
use Rattle.checks.specs.declared.type_names.TypesFault.TheVariants as faults

abbrev pub unknown_in : TypesFault → Option (List ℕ)
unknown_in faults.OutOfMemory = None
unknown_in (faults.Unknown name) = Some name

-- seen by view, what was answered is what the definition says, unless memory ran out
abbrev pub Gives : {X Y : Type 0} → (X → Y) → Result X TypesFault → Result Y (List ℕ) → Type 0
Gives = answers.Gives unknown_in
