use Rattle.sentences.proofs.Items.{put_three}
use Rattle.sentences.proofs.missing.push_refused.Goals as goal

pub returns-in_ok-push_number-in-Some : goal.returns-in_ok-push_number-in-Some
returns-in_ok-push_number-in-Some c =
    rw c.in-Some.is (put_three _ _ _ _ _ _ _ _ c.in_ok-push_str-in-Some.ensures c.in_ok-push_number-in-Some.ensures c.push_str-in-Some.ensures)
