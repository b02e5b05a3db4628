use Rattle.tree.proofs.Moved.{all_moved}
use Rattle.tree.proofs.laws.moving_takes_all_along.Goals as goal

pub returns : goal.returns
returns c = all_moved
