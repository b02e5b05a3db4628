use Rattle.std.proofs.Common.{[], arith}
use Rattle.differences.proofs.Places.{pushed}
use Rattle.differences.proofs.value_changes.push_stretch.Goals as goal

pub loop-i-preserved : goal.loop-i-preserved
loop-i-preserved c = record {
  low = let low = c.loop-i.invariant.low in omega arith;
  so_far = pushed c.loop-i.found.items c.push.new.self.items c.args.values.now c.loop-i.i c.args.to (record { ref_ptr = (0, 0); now = [] }) _ c.loop-i-test.true c.requires.within c.in_ok-push.ensures.items c.loop-i.invariant.so_far;
}
