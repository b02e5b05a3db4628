use Rattle.sorting.proofs.Upwards.{one_more}
use Rattle.sorting.proofs.normal_names.texts_up.Goals as goal

pub loop-index-preserved : goal.loop-index-preserved
loop-index-preserved c = one_more c.args.rdns.now c.loop-index.index c.loop-index.texts c.push.new.self c.in_ok-ended_by.field-0 _ c.loop-index-test.true c.in_ok-ended_by.ensures c.in_ok-push.ensures.ok c.loop-index.invariant
