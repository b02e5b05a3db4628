use Rattle.ldif_lines.proofs.MoveLemmas.{moved-refl}
use Rattle.ldif_lines.proofs.reader.Reader+S.pull.Goals as goal

pub returns-then-self-clause-moved : goal.returns-then-self-clause-moved
returns-then-self-clause-moved g c = moved-refl _ _ _
