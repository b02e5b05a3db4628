use Rattle.ldif_lines.specs.Folding.{standard_width}
use Rattle.ldif.proofs.WrittenContents.{contents_back}
use Rattle.ldif.proofs.laws.written_contents_are_read.Goals as goal

pub returns : goal.returns
returns c = contents_back standard_width c.written_blocks_are_read.ensures.first
