use Rattle.ldif_lines.proofs.ClosedLemmas.{closed_first}
use Rattle.ldif_lines.proofs.laws.closed_records_come_first.Goals as goal

pub returns : goal.returns
returns c = closed_first
