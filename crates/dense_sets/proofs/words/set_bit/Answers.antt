use Rattle.dense_sets.proofs.Bits.{has_bit_set}
use Rattle.dense_sets.proofs.words.set_bit.Goals as goal

pub returns : goal.returns
returns c q = has_bit_set c.args.words.now c.args.id q c.requires
