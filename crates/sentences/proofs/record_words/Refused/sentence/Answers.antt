use Rattle.sentences.specs.Cases.{case_of}
use Rattle.sentences.proofs.Items.{at_ok, sentence_said}
use Rattle.sentences.proofs.record_words.Refused.sentence.Goals as goal

pub returns : goal.returns
returns c =
    sentence_said c.of.result (case_of c.args.self.now) c.args.reason.now _ _ _ _ c.in_ok-words.ensures c.in_ok-push_place.ensures c.line_of.ensures
    (at_ok _ _ _ c.in_ok-push_words.was c.push_words.ensures) c.of.ensures
