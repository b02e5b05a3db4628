use Rattle.ldif.proofs.WrittenLines.{read_again}
use Rattle.ldif.proofs.laws.written_lines_are_read.Goals as goal

pub returns : goal.returns
returns c = read_again
