use Rattle.differences.proofs.SettledGoals.{goal_of_sets}
use Rattle.differences.proofs.laws.sets_are_the_goal.Goals as goal

pub returns : goal.returns
returns c = λ conf a b ok. goal_of_sets c.classes_are_kept.ensures conf ok a b
