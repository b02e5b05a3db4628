use Rattle.std.proofs.Common.{arith}
use Rattle.dn.specs.Writing.{ava_text}
use Rattle.dn.proofs.Joining.{joined_rest}
use Rattle.dn.proofs.write.put_avas.Goals as goal

pub returns-in_ok-put_more_avas-in-len1-up : goal.returns-in_ok-put_more_avas-in-len1-up
returns-in_ok-put_more_avas-in-len1-up c =
    joined_rest 43 ava_text c.args.avas.now c.first-item.result c.args.out.now.items c.put_ava.new.out.items c.put_more_avas.new.out.items (omega arith) c.first-item.is c.in_ok-put_ava-in-len1-up.ensures c.in_ok-put_more_avas-in-len1-up.ensures
