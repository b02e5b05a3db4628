use Rattle.std.proofs.Common.{arith}
use Rattle.schema.proofs.OwnRdns.{own_first}
use Rattle.schema.proofs.conf.Conf.own_rdn.Goals as goal

pub returns : goal.returns
returns c = own_first c.args.self.now c.args.rdns.items c.swap_remove.result (omega arith) c.swap_remove.ensures.value
