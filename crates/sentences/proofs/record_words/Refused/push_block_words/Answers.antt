use Rattle.std.proofs.Common.{◌≡◌, ap, refl, ◌∙◌, Some, None, arith}
use Rattle.std.specs.List.{slice_get}
use Rattle.std.specs.Option.{option_copied}
use Rattle.std.proofs.lemmas.Grind.{common_steps}
use Rattle.reasons.specs.Asked.{blocks_of_record}
use Rattle.sentences.proofs.Items.{item_at}
use Rattle.sentences.proofs.record_words.Refused.push_block_words.Goals as goal

pub returns-in-Some : goal.returns-in-Some
returns-in-Some c =
    let e : slice_get (blocks_of_record c.args.self.now.asked.now) c.args.index ≡ Some c.in-Some.block.now =
    item_at _ _ _ _ _ c.blocks-2.ensures refl c.get.ensures.lookup ∙ ap option_copied c.in-Some.is in
    rw e (c.push_block_fault.ensures)

pub returns-in-None : goal.returns-in-None
returns-in-None c =
    let e : slice_get (blocks_of_record c.args.self.now.asked.now) c.args.index ≡ None =
    item_at _ _ _ _ _ c.blocks-2.ensures refl c.get.ensures.lookup ∙ ap option_copied c.in-None.is in
    rw e (grind (arith, common_steps))
