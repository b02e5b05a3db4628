use Rattle.std.proofs.Common.{[], arith}
use Rattle.differences.proofs.Places.{none_left, some_left, all_done}
use Rattle.differences.proofs.value_changes.values_between.Goals as goal

pub returns-in-None-clause-parts : goal.returns-in-None-clause-parts
returns-in-None-clause-parts c =
    none_left c.args.before.now c.args.after.now c.loop-k.gone.items c.loop-k.at c.loop-k.k c.loop-k.invariant.within _ c.loop-k.invariant.so_far (record { ref_ptr = (0, 0); now = [] }) c.push_stretch.new.found.items
    c.loop-k-test.true c.in-None.ensures.place c.in_ok-push_stretch-in-None.ensures

pub loop-k-preserved : goal.loop-k-preserved
loop-k-preserved c = record {
  within = let lt = c.in-Some.ensures.within in omega arith;
  so_far = some_left c.args.before.now c.args.after.now c.loop-k.gone.items c.loop-k.at c.loop-k.k c.loop-k.invariant.within _ c.loop-k.invariant.so_far (record { ref_ptr = (0, 0); now = [] }) c.push_stretch-in-Some.new.found.items c.in-Some.place
      c.loop-k-test.true c.in-Some.ensures.place c.in_ok-push_stretch-in-Some.ensures;
}

pub returns-clause-parts : goal.returns-clause-parts
returns-clause-parts c =
    all_done c.args.before.now c.args.after.now c.loop-k.gone.items c.loop-k.at c.loop-k.k c.loop-k.invariant.within _ c.loop-k.invariant.so_far c.push_stretch-2.new.found.items c.loop-k-test.false c.in_ok-push_stretch.ensures
