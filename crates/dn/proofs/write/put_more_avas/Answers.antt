use Rattle.dn.specs.Writing.{ava_text}
use Rattle.dn.proofs.Joining.{one_put, all_put}
use Rattle.dn.proofs.write.put_more_avas.Goals as goal

pub loop-ava-preserved : goal.loop-ava-preserved
loop-ava-preserved c =
    one_put 43 ava_text c.args.avas.now c.loop-ava.ava-index c.ava-item.result c.loop-ava.out.items c.extend_from_slice.new.self.items c.put_ava.new.out.items _ c.loop-ava-test.true c.ava-item.is c.in_ok-extend_from_slice.ensures.items c.in_ok-put_ava.ensures c.loop-ava.invariant

pub returns : goal.returns
returns c = all_put 43 ava_text c.args.avas.now c.loop-ava.ava-index c.loop-ava.out.items _ c.loop-ava-test.false c.loop-ava.invariant
