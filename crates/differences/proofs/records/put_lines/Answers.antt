use Rattle.std.proofs.Common.{◌+◌, ◌++◌, ap, ◌∙◌, drop}
use Rattle.values.specs.Types.{name_of}
use Rattle.entries.specs.Entries.{Attributes}
use Rattle.differences.specs.inner.BlockTexts.{value_lines}
use Rattle.differences.specs.inner.Cuts.{texts}
use Rattle.differences.specs.inner.LentAttributes.{all_lent}
use Rattle.differences.specs.inner.RecordTexts.{lines_text}
use Rattle.differences.proofs.LentLists.{lent_more, put_more}
use Rattle.differences.proofs.records.put_lines.Goals as goal

pub loop-i-preserved : goal.loop-i-preserved
loop-i-preserved c =
    let types = c.args.conf.now.types in
    let attrs = c.args.attrs.now in
    let a = c.index-attrs-i.result in
    put_more c.loop-i.out.items c.put_texts.new.out.items (value_lines (name_of types a.t.now) (texts a.values.items)) (lines_text types (drop (c.loop-i.i + 1) (all_lent attrs))) (lines_text types (drop c.loop-i.i (all_lent attrs))) _
    (c.in_ok-put_texts.ensures ∙ (λ i. c.loop-i.out.items ++ value_lines (c.name.ensures i) (texts (c.as_slice.ensures.value i)))) (ap (λ (xs : Attributes). lines_text types xs) (lent_more attrs c.loop-i.i a c.loop-i-test.true c.index-attrs-i.is)) c.loop-i.invariant
