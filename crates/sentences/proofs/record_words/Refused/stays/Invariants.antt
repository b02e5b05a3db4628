use Rattle.std.proofs.Common.{◌≡◌, drop}
use Rattle.std.specs.List.{list_any}
use Rattle.sentences.specs.ClassWords.{takes_away}
use Rattle.sentences.proofs.record_words.Refused.stays.Given as goal

abbrev pub invariant-loop-block : goal.invariant-loop-block
invariant-loop-block l =
    list_any (takes_away l.self.conf.now l.value) (drop l.block-index l.later) ≡ list_any (takes_away l.self.conf.now l.value) l.later
