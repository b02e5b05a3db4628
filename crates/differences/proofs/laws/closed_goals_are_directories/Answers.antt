use Rattle.differences.proofs.SettledGoals.{is_directory}
use Rattle.differences.proofs.laws.closed_goals_are_directories.Goals as goal

pub returns : goal.returns
returns c = λ conf extent a b goal ok h k. is_directory c.classes_are_kept.ensures conf ok a b h k extent goal
