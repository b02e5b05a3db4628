use Rattle.differences.specs.Comments.{further_words}
use Rattle.differences.proofs.LentMods.{text_more}
use Rattle.differences.proofs.comments.put_words.Goals as goal

pub loop-i-preserved : goal.loop-i-preserved
loop-i-preserved c =
    text_more c.args.conf.now.types c.args.blocks.now c.loop-i.i further_words c.index-blocks-i.result c.loop-i.words.items c.put_block.new.out.items _
    c.loop-i-test.true c.index-blocks-i.is c.in_ok-put_block.ensures c.loop-i.invariant
