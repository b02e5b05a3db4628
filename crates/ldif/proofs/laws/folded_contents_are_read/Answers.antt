use Rattle.ldif.proofs.WrittenContents.{contents_back}
use Rattle.ldif.proofs.laws.folded_contents_are_read.Goals as goal

pub returns : goal.returns
returns c width cs wide = contents_back width (λ blocks. c.folded_blocks_are_read.ensures.first width blocks wide) cs
