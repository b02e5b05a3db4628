use Rattle.std.proofs.Common.{ap, ◌∙◌}
use Rattle.id_sets.specs.Words.{set_of_words}
use Rattle.dense_sets.proofs.Bits.{words_minus}
use Rattle.dense_sets.proofs.word_set.WordSetIdSet.minus.Goals as goal

pub returns : goal.returns
returns c =
    words_minus c.in_ok-words.words.items c.deref.result.now c.deref-2.result.now c.args.self.now c.args.other.now
    (ap set_of_words c.deref.ensures.value ∙ c.self.view_is)
    (ap set_of_words c.deref-2.ensures.value ∙ c.other.view_is)
    c.in_ok-words.ensures.bits
