use Rattle.ldif_lines.proofs.WrittenLemmas.{lines_read, blocks_read}
use Rattle.ldif_lines.proofs.laws.folded_blocks_are_read.Goals as goal

pub returns-clause-lines : goal.returns-clause-lines
returns-clause-lines c width blocks wide = lines_read width wide blocks

pub returns-clause-first : goal.returns-clause-first
returns-clause-first c width blocks wide = blocks_read width wide blocks
