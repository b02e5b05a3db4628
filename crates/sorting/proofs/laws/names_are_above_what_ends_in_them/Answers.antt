use Rattle.sorting.proofs.Aboves.{above_its_rdns}
use Rattle.sorting.proofs.laws.names_are_above_what_ends_in_them.Goals as goal

pub returns : goal.returns
returns c = above_its_rdns
