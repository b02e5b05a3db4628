use Rattle.differences.specs.EntryChanges.{deleting}
use Rattle.differences.specs.inner.LentBlocks.{all_seen}
use Rattle.differences.proofs.LentLists.{one_more}
use Rattle.differences.proofs.blocks.push_deletes.Goals as goal

pub loop-i-preserved : goal.loop-i-preserved
loop-i-preserved c = one_more deleting c.args.attrs.now c.loop-i.i c.index-attrs-i.result (all_seen c.loop-i.blocks.items) (all_seen c.push_block.new.blocks.items) _ c.loop-i-test.true c.index-attrs-i.is c.in_ok-push_block.ensures c.loop-i.invariant
