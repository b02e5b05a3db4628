use Rattle.differences.proofs.Goals.{whole_is}
use Rattle.differences.proofs.laws.all_is_the_goal.Goals as goal

pub returns : goal.returns
returns c = whole_is
