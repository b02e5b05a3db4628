use Rattle.dn.specs.Writing.{rdn_text}
use Rattle.dn.proofs.Joining.{one_put, all_put}
use Rattle.dn.proofs.write.put_more_rdns.Goals as goal

pub loop-rdn-preserved : goal.loop-rdn-preserved
loop-rdn-preserved c =
    one_put 44 rdn_text c.args.rdns.now c.loop-rdn.rdn-index c.rdn-item.result c.loop-rdn.out.items c.extend_from_slice.new.self.items c.put_rdn.new.out.items _ c.loop-rdn-test.true c.rdn-item.is c.in_ok-extend_from_slice.ensures.items c.in_ok-put_rdn.ensures c.loop-rdn.invariant

pub returns : goal.returns
returns c = all_put 44 rdn_text c.args.rdns.now c.loop-rdn.rdn-index c.loop-rdn.out.items _ c.loop-rdn-test.false c.loop-rdn.invariant
