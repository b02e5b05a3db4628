use Rattle.std.proofs.Common.{arith}
use Rattle.commands.proofs.IndexTold.{each_byte}
use Rattle.commands.proofs.index_file.are_bytes.Goals as goal

pub returns : goal.returns
returns c = each_byte c.args.bytes.now (λ i. omega (arith, c.type_inv.bytes i))
