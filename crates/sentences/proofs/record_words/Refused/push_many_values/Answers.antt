use Rattle.sentences.specs.ClassWords.{many_values}
use Rattle.sentences.proofs.Items.{put_four}
use Rattle.sentences.proofs.record_words.Refused.push_many_values.Goals as goal

pub returns : goal.returns
unfolding many_values
returns c = put_four _ _ _ _ _ _ _ _ _ _ c.in_ok-push_type.ensures c.in_ok-push_str.ensures c.in_ok-push_grouped.ensures c.push_str-2.ensures
