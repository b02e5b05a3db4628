use Rattle.std.proofs.Common.{[], ap, sym, ◌∙◌, arith}
use Rattle.std.specs.FinSet.{contains-empty}
use Rattle.std.specs.Ordering.{nat_cmp}
use Rattle.id_sets.specs.Words.{set_of_words}
use Rattle.id_sets.proofs.Bits.{has_bit_past}
use Rattle.dense_sets.proofs.Bits.{words_are}
use Rattle.dense_sets.proofs.word_set.WordSetIdSet.new.Goals as goal

pub returns : goal.returns
returns c = ap set_of_words c.new.ensures.items ∙ words_are [] _ (λ q. has_bit_past [] q (omega arith) ∙ sym (contains-empty nat_cmp q))
