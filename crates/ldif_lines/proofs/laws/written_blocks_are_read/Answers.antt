use Rattle.ldif_lines.specs.Folding.{standard_width}
use Rattle.ldif_lines.proofs.WrittenLemmas.{lines_read, blocks_read, standard}
use Rattle.ldif_lines.proofs.laws.written_blocks_are_read.Goals as goal

pub returns-clause-lines : goal.returns-clause-lines
returns-clause-lines c = lines_read standard_width standard

pub returns-clause-first : goal.returns-clause-first
returns-clause-first c = blocks_read standard_width standard
