-- How reading fails.
use Rattle.std.specs.Prelude.{◌≤◌, ℕ, List, ◌++◌, length, take}
use Rattle.filter_text.specs.declared.filter_fault.FilterFault.{FilterFault}
use Rattle.filter_text.specs.declared.filter_fault.FilterFault.TheVariants.{At, OutOfMemory}
use Rattle.filter_text.specs.declared.filter_fault.FilterFaultKind.TheVariants.{Syntax, Deep}
use Rattle.filter_text.specs.Spells.{SomeText}

abbrev pub IsOutOfMemory : FilterFault → Type 0
IsOutOfMemory OutOfMemory = Unit {0}
IsOutOfMemory (At at kind) = ⊥

-- the bytes before the place begin a text that spells a filter, however deep
abbrev pub BeginsAt : List ℕ → FilterFault → Type 0
BeginsAt text (At at Syntax) = (at ≤ length text) × (more : List ℕ) × SomeText (take at text ++ more)
BeginsAt text (At at Deep) = Unit {0}
BeginsAt text OutOfMemory = Unit {0}
