use Rattle.id_sets.proofs.Bits.{contains_words}
use Rattle.dense_sets.proofs.word_set.WordSetIdSet.contains.Goals as goal

pub returns : goal.returns
returns c = cc (c.test_bit.ensures, c.deref.ensures.value, c.self.view_is, contains_words c.self.inside.words.items c.args.id)
