use Rattle.std.proofs.Common.{◌≡◌, ap, refl, sym, ◌∙◌, Some, None}
use Rattle.std.specs.List.{slice_get}
use Rattle.std.specs.Option.{option_copied}
use Rattle.std.proofs.lemmas.List.{append-nil}
use Rattle.reasons.specs.Asked.{blocks_of_record}
use Rattle.sentences.proofs.Items.{item_at}
use Rattle.sentences.proofs.record_words.Refused.push_value_words.Goals as goal

pub returns-in-Some : goal.returns-in-Some
returns-in-Some c =
    let e : slice_get (blocks_of_record c.args.self.now.asked.now) c.args.block ≡ Some c.in-Some.found.now =
    item_at _ _ _ _ _ c.blocks-2.ensures refl c.get.ensures.lookup ∙ ap option_copied c.in-Some.is in
    rw e c.push_block_value.ensures

pub returns-in-None : goal.returns-in-None
returns-in-None c =
    let e : slice_get (blocks_of_record c.args.self.now.asked.now) c.args.block ≡ None =
    item_at _ _ _ _ _ c.blocks-2.ensures refl c.get.ensures.lookup ∙ ap option_copied c.in-None.is in
    rw e (_, refl, sym (append-nil _))
