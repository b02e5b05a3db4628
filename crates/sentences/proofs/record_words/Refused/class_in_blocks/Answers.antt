use Rattle.std.proofs.Common.{List, ap, ◌∙◌, arith}
use Rattle.ldif.specs.declared.record.Mod.{Mod}
use Rattle.sentences.proofs.Blocks.{first_from, block_found, block_passed}
use Rattle.sentences.proofs.record_words.Refused.class_in_blocks.Goals as goal

pub returns-in-Some : goal.returns-in-Some
returns-in-Some c =
    let conf = c.args.self.now.conf.now in
    let blocks : List Mod = c.blocks-blocks.result.now in
    block_found conf blocks c.loop-place.place c.index-blocks-place.result _ _ (omega arith) c.index-blocks-place.is c.split_at.ensures.back c.in-Some.ensures
    c.loop-place.invariant
    ∙ ap (first_from conf) c.blocks-blocks.ensures

pub loop-place-preserved : goal.loop-place-preserved
loop-place-preserved c =
    let conf = c.args.self.now.conf.now in
    let blocks : List Mod = c.blocks-blocks.result.now in
    block_passed conf blocks c.loop-place.place c.index-blocks-place.result _ (omega arith) c.index-blocks-place.is c.split_at.ensures.back c.in_default.ensures
    c.loop-place.invariant
