use Rattle.differences.proofs.SettledGoals.{goal_exists}
use Rattle.differences.proofs.laws.a_goal_exists.Goals as goal

pub returns : goal.returns
returns c = goal_exists
