use Rattle.std.proofs.Common.{◌+◌, ◌++◌, sym, ap, ◌∙◌, drop}
use Rattle.std.proofs.lemmas.List.{append-nil}
use Rattle.values.specs.Types.{name_of}
use Rattle.entries.specs.Entries.{Attributes, lines_of}
use Rattle.differences.specs.inner.Cuts.{texts}
use Rattle.differences.specs.inner.LentAttributes.{all_lent, named_lines}
use Rattle.differences.proofs.LentLists.{lent_more, lent_none, put_more}
use Rattle.differences.proofs.left_attributes.lines_of.Goals as goal

pub loop-i-preserved : goal.loop-i-preserved
unfolding lines_of
loop-i-preserved c =
    let types = c.args.conf.now.types in
    let attrs = c.args.attrs.now in
    let a = c.index-attrs-i.result in
    put_more c.loop-i.lines.items c.push_lines.new.lines.items (named_lines (name_of types a.t.now) (texts a.values.items)) (lines_of types (drop (c.loop-i.i + 1) (all_lent attrs))) (lines_of types (drop c.loop-i.i (all_lent attrs))) _
    (c.in_ok-push_lines.ensures ∙ (λ i. c.loop-i.lines.items ++ named_lines (c.name.ensures i) (texts (c.as_slice.ensures.value i)))) (ap (λ (xs : Attributes). lines_of types xs) (lent_more attrs c.loop-i.i a c.loop-i-test.true c.index-attrs-i.is)) c.loop-i.invariant

pub returns : goal.returns
unfolding lines_of
returns c =
    sym (append-nil c.loop-i.lines.items)
    ∙ ap (λ (xs : Attributes). c.loop-i.lines.items ++ lines_of c.args.conf.now.types xs) (sym (lent_none c.args.attrs.now c.loop-i.i c.loop-i-test.false))
    ∙ c.loop-i.invariant
