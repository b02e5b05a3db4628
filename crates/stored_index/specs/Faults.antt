-- The number and the text of each fault.
use Rattle.std.specs.Prelude.{ℕ, List, ◌++◌, codes}
use Rattle.std.specs.Fmt.{decimal}
use Rattle.stored_index.specs.declared.fault.IndexFaultKind.{IndexFaultKind}
use Rattle.stored_index.specs.declared.fault.IndexFaultKind.TheVariants.{Header, Stale, Form, Order, Rank}

abbrev pub fault_number : IndexFaultKind → ℕ
fault_number Header = 1
fault_number Stale = 2
fault_number Form = 3
fault_number Order = 4
fault_number Rank = 5

abbrev pub fault_text : IndexFaultKind → List ℕ
fault_text Header = codes "header"
fault_text Stale = codes "stale"
fault_text Form = codes "form"
fault_text Order = codes "order"
fault_text Rank = codes "rank"

-- as it is reported: its number behind an `I`, and its text
abbrev pub fault_report : IndexFaultKind → List ℕ
fault_report f = codes "I" ++ (decimal (fault_number f) ++ (codes " " ++ fault_text f))
