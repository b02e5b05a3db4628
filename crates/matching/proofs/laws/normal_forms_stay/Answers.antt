use Rattle.matching.proofs.Again.{norm_again}
use Rattle.matching.proofs.laws.normal_forms_stay.Goals as goal

pub returns : goal.returns
returns c = norm_again
