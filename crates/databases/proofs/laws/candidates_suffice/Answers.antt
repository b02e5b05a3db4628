use Rattle.databases.proofs.Scans.{all_suffice}
use Rattle.databases.proofs.laws.candidates_suffice.Goals as goal

pub returns : goal.returns
returns c = λ conf d is_candidate base scope f each. all_suffice conf is_candidate base scope f d each
