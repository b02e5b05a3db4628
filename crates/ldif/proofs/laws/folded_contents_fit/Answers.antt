use Rattle.ldif.proofs.WrittenContents.{contents_fit}
use Rattle.ldif.proofs.laws.folded_contents_fit.Goals as goal

pub returns : goal.returns
returns c width cs wide = contents_fit width (λ blocks. c.folded_lines_fit.ensures.fit width blocks wide) cs
