use Rattle.std.proofs.Common.{sym, arith}
use Rattle.matching.proofs.ValidBytes.{are_bytes}
use Rattle.matching.proofs.syntax.are_bytes.Goals as goal

pub returns : goal.returns
returns c = sym (are_bytes c.args.bytes.now (λ i. omega (arith, c.type_inv.bytes i)))
