use Rattle.std.proofs.Common.{arith}
use Rattle.dn.specs.Writing.{rdn_text}
use Rattle.dn.proofs.Joining.{joined_rest}
use Rattle.dn.proofs.write.put_rdns.Goals as goal

pub returns-in_ok-put_more_rdns-in-len1-up : goal.returns-in_ok-put_more_rdns-in-len1-up
returns-in_ok-put_more_rdns-in-len1-up c =
    joined_rest 44 rdn_text c.args.rdns.now c.first-item.result c.args.out.now.items c.put_rdn.new.out.items c.put_more_rdns.new.out.items (omega arith) c.first-item.is c.in_ok-put_rdn-in-len1-up.ensures c.in_ok-put_more_rdns-in-len1-up.ensures
