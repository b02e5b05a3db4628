use Rattle.sentences.specs.RecordWords.{control_words}
use Rattle.sentences.proofs.Items.{put_three}
use Rattle.sentences.proofs.record_words.Refused.push_control.Goals as goal

pub returns : goal.returns
unfolding control_words
returns c = put_three _ _ _ _ _ _ _ _ c.in_ok-push_str.ensures c.in_ok-push_oid.ensures c.push_str-2.ensures
