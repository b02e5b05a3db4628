use Rattle.std.proofs.Common.{◌%◌, nat_eq, ap, sym, ◌∙◌, arith}
use Rattle.std.proofs.lemmas.Nat.Bits.{shr_and_one}
use Rattle.std.proofs.lemmas.Bool.{le-ltb}
use Rattle.id_sets.specs.Words.{has_bit}
use Rattle.id_sets.proofs.Bits.{has_bit_past}
use Rattle.dense_sets.proofs.words.test_bit.Goals as goal

pub returns-then-place-words : goal.returns-then-place-words
unfolding has_bit
returns-then-place-words c = ap (λ b. nat_eq b 1) (shr_and_one _ (c.args.id % 64))

pub returns-else-place-words : goal.returns-else-place-words
returns-else-place-words c = le-ltb _ _ c.if-place-words.false ∙ sym (has_bit_past c.args.words.now c.args.id (omega arith))
