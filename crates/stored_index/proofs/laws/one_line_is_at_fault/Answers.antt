use Rattle.stored_index.proofs.OneFaultLine.{one_fault_line}
use Rattle.stored_index.proofs.laws.one_line_is_at_fault.Goals as goal

pub returns : goal.returns
returns c conf entries stamp text f g own one two = one_fault_line conf entries stamp text own f g one two
