use Rattle.ldif_lines.proofs.NumberLemmas.{numbered}
use Rattle.ldif_lines.proofs.laws.lines_are_numbered.Goals as goal

pub returns : goal.returns
returns c = numbered
