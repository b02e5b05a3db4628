use Rattle.std.proofs.Common.{arith}
use Rattle.std.proofs.lemmas.Grind.{common_steps}
use Rattle.values.proofs.values_iter.ValuesIterIterator.next.Goals as goal

pub returns-after-next_in_chunks-clause-goes : goal.returns-after-next_in_chunks-clause-goes
returns-after-next_in_chunks-clause-goes c = grind (arith, common_steps)
