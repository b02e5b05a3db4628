use Rattle.dense_sets.proofs.Bits.{has_bit_clear}
use Rattle.dense_sets.proofs.words.clear_bit.Goals as goal

pub returns : goal.returns
returns c q = has_bit_clear c.args.words.now c.args.id q c.requires
