use Rattle.std.proofs.Common.{◌≡◌, ◌||◌, List, get_or, ap, ◌∙◌}
use Rattle.std.proofs.lemmas.List.{take_all}
use Rattle.std.specs.Str.{bytes_eq}
use Rattle.index_text.specs.declared.slot_key.SlotKey.{SlotKey}
use Rattle.index_text.specs.IndexTexts.{key_text}
use Rattle.stored_index.specs.Stored.{is_written_as}
use Rattle.stored_index.proofs.AskedLemmas.{one_more}
use Rattle.stored_index.proofs.asked.AskedTexts.of.Goals as goal

pub loop-key-preserved : goal.loop-key-preserved
loop-key-preserved c = λ word.
    let keys = c.args.keys.now in
    let i = c.loop-key.key-index in
    let d = c.key-item.result in
    let bytes : c.as_slice.result.now ≡ (get_or keys i d).key = c.as_slice.ensures ∙ ap (λ (k : SlotKey). k.key) c.key-item.is in
    c.in_ok-add.ensures word
    ∙ (λ j. bytes_eq word (key_text (bytes j)) || c.loop-key.invariant word j)
    ∙ one_more keys i d word c.loop-key-test.true

pub returns : goal.returns
returns c = λ word. c.loop-key.invariant word ∙ ap (λ (ks : List SlotKey). is_written_as ks word) (take_all c.loop-key.key-index c.args.keys.now c.loop-key-test.false)
