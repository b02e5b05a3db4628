use Rattle.sentences.specs.ClassWords.{not_allowed}
use Rattle.sentences.proofs.Items.{put_two}
use Rattle.sentences.proofs.record_words.Refused.push_not_allowed.Goals as goal

pub returns : goal.returns
unfolding not_allowed
returns c = put_two _ _ _ _ _ _ c.in_ok-push_str.ensures c.push_type.ensures
