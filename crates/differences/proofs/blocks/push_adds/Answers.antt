use Rattle.differences.specs.EntryChanges.{adding}
use Rattle.differences.specs.inner.LentBlocks.{all_seen}
use Rattle.differences.proofs.LentLists.{one_more}
use Rattle.differences.proofs.blocks.push_adds.Goals as goal

pub loop-i-preserved : goal.loop-i-preserved
loop-i-preserved c = one_more adding c.args.attrs.now c.loop-i.i c.index-attrs-i.result (all_seen c.loop-i.blocks.items) (all_seen c.push_added.new.blocks.items) _ c.loop-i-test.true c.index-attrs-i.is c.in_ok-push_added.ensures c.loop-i.invariant
