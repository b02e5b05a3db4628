use Rattle.differences.proofs.Cleared.{is_closed, goal_may}
use Rattle.differences.proofs.laws.clear_changes_lead_by_text.Goals as goal

pub returns : goal.returns
returns c = λ conf extent a b ok h k clear go_on goal is few.
    let closed = is_closed c.classes_are_kept.ensures conf ok extent a b goal h k is clear in
    c.changes_lead_by_text.ensures conf extent a b goal go_on ok h k is
    (c.closed_goals_are_directories.ensures conf extent a b goal ok h k is closed few)
    (goal_may c.classes_are_kept.ensures conf ok extent a b goal h k is clear)
