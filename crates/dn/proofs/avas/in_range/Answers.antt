use Rattle.std.proofs.Common.{arith}
use Rattle.std.proofs.lemmas.Bool.{lt-ltb}
use Rattle.std.proofs.lemmas.List.{get_or_default}
use Rattle.std.proofs.lemmas.List.Sums.{list_all-from_AllPass}
use Rattle.dn.specs.Names.{is_byte}
use Rattle.dn.proofs.avas.in_range.Goals as goal

pub returns-clause-in_range : goal.returns-clause-in_range
returns-clause-in_range c =
    list_all-from_AllPass is_byte c.args.bytes.now (λ k d lt. lt-ltb _ 256 (omega (arith, c.type_inv.bytes k, get_or_default c.args.bytes.now k d 0 lt)))
