use Rattle.std.proofs.Common.{◌≡◌, ap, ◌∙◌, Some, None, arith}
use Rattle.std.specs.List.{slice_get}
use Rattle.std.specs.Option.{option_copied}
use Rattle.std.proofs.lemmas.Grind.{common_steps}
use Rattle.sentences.specs.PartWords.{no_such_value}
use Rattle.sentences.proofs.Items.{item_at}
use Rattle.sentences.proofs.value_words.push_no_such_value.Goals as goal

pub returns-in-Some : goal.returns-in-Some
unfolding no_such_value
returns-in-Some c =
    let e : slice_get c.args.conf.now.types c.args.t ≡ Some c.in-Some.found.now =
    item_at _ _ _ _ _ c.types.ensures.types c.number.ensures c.get.ensures.lookup ∙ ap option_copied c.in-Some.is in
    rw e (grind (arith, common_steps))

pub returns-in-None : goal.returns-in-None
unfolding no_such_value
returns-in-None c =
    let e : slice_get c.args.conf.now.types c.args.t ≡ None =
    item_at _ _ _ _ _ c.types.ensures.types c.number.ensures c.get.ensures.lookup ∙ ap option_copied c.in-None.is in
    rw e (grind (arith, common_steps))
