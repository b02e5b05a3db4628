use Rattle.std.proofs.Common.{◌-◌, length, sym, arith}
use Rattle.base.proofs.LastByte.{ends_is}
use Rattle.base.proofs.ends.ends_with.Goals as goal

pub returns-in-len1-up : goal.returns-in-len1-up
returns-in-len1-up c = sym (ends_is c.args.text.now c.args.byte (length c.args.text.now - 1) (omega (arith, c.in-len1-up.len_at_least)) (omega (arith, c.in-len1-up.len_at_least)))
