use Rattle.ldif_lines.proofs.WrittenLemmas.{commented_read}
use Rattle.ldif_lines.proofs.laws.commented_blocks_are_read.Goals as goal

pub returns : goal.returns
returns c = commented_read
