use Rattle.ldif_lines.proofs.WrittenLemmas.{lines_fit, fits_whole}
use Rattle.ldif_lines.proofs.laws.folded_lines_fit.Goals as goal

pub returns-clause-fit : goal.returns-clause-fit
returns-clause-fit c width blocks wide = lines_fit width wide blocks

pub returns-clause-whole : goal.returns-clause-whole
returns-clause-whole c width = fits_whole width width
