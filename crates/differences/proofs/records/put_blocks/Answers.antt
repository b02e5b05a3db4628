use Rattle.differences.specs.inner.BlockTexts.{mod_text}
use Rattle.differences.proofs.LentMods.{text_more}
use Rattle.differences.proofs.records.put_blocks.Goals as goal

pub loop-i-preserved : goal.loop-i-preserved
loop-i-preserved c =
    text_more c.args.conf.now.types c.args.blocks.now c.loop-i.i mod_text c.index-blocks-i.result c.loop-i.out.items c.put_block.new.out.items _
    c.loop-i-test.true c.index-blocks-i.is c.in_ok-put_block.ensures c.loop-i.invariant
