-- The number and the text of each fault.
use Rattle.std.specs.Prelude.{ℕ, List, codes}
use Rattle.dn.specs.declared.faults.NameFaultKind.{NameFaultKind}
use Rattle.dn.specs.declared.faults.NameFaultKind.TheVariants.{EqualsMissing, Escape, NotEscaped, TypeMissing, FormNotSupported}

abbrev pub fault_number : NameFaultKind → ℕ
fault_number EqualsMissing = 1
fault_number Escape = 2
fault_number NotEscaped = 3
fault_number TypeMissing = 4
fault_number FormNotSupported = 5

abbrev pub fault_text : NameFaultKind → List ℕ
fault_text EqualsMissing = codes "equals sign missing"
fault_text Escape = codes "escape"
fault_text NotEscaped = codes "character not escaped"
fault_text TypeMissing = codes "type missing"
fault_text FormNotSupported = codes "form not supported"
