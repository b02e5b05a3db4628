use Rattle.std.proofs.Common.{◌≡◌, ap, refl, sym, ◌∙◌, Option, Some, None, List, ℕ}
use Rattle.std.specs.List.{slice_get}
use Rattle.std.specs.Option.{option_copied}
use Rattle.std.proofs.lemmas.List.{append-nil}
use Rattle.sentences.specs.Cases.{case_of}
use Rattle.sentences.specs.PartWords.{value_words}
use Rattle.sentences.specs.RecordWords.{IsValueWords}
use Rattle.sentences.proofs.Items.{item_at, puts}
use Rattle.sentences.proofs.record_words.Refused.push_block_value.Goals as goal

pub returns-in_ok-there-in-Some : goal.returns-in_ok-there-in-Some
returns-in_ok-there-in-Some c =
    let e : slice_get c.args.block.now.values c.args.index ≡ Some c.in-Some.value.now =
    item_at _ _ _ _ _ c.as_slice.ensures refl c.get.ensures.lookup ∙ ap option_copied c.in-Some.is in
    let there : Option (List ℕ) = option_copied c.in_ok-there-in-Some.there in
    let same : value_words c.args.self.now.conf.now there c.as_slice-name.result.now c.as_slice-in-Some-2.result.now c.args.why
    ≡ value_words c.args.self.now.conf.now there c.args.block.now.attr c.in-Some.value.now c.args.why =
    rw (c.as_slice-name.ensures, c.as_slice-in-Some-2.ensures) refl in
    rw e (puts c.push_value_fault.result _ _
    (value_words c.args.self.now.conf.now there c.as_slice-name.result.now c.as_slice-in-Some-2.result.now c.args.why)
    (IsValueWords (case_of c.args.self.now) c.args.why c.args.block.now (Some c.in-Some.value.now))
    (there, same) c.push_value_fault.ensures)

pub returns-in-None : goal.returns-in-None
returns-in-None c =
    let e : slice_get c.args.block.now.values c.args.index ≡ None =
    item_at _ _ _ _ _ c.as_slice.ensures refl c.get.ensures.lookup ∙ ap option_copied c.in-None.is in
    rw e (_, refl, sym (append-nil _))
