-- How a fault is printed.
use Rattle.std.specs.Prelude.{ℕ, List, ◌++◌, codes}
use Rattle.std.specs.Fmt.{decimal}
use Rattle.filter_text.specs.declared.filter_fault.FilterFault.{FilterFault}
use Rattle.filter_text.specs.declared.filter_fault.FilterFault.TheVariants.{At, OutOfMemory}
use Rattle.filter_text.specs.declared.filter_fault.FilterFaultKind.TheVariants.{Syntax, Deep}

abbrev pub fault_report : FilterFault → List ℕ
fault_report (At at Syntax) = codes "fault at " ++ decimal at
fault_report (At at Deep) = codes "deeper than 512"
fault_report OutOfMemory = codes "out of memory"
