use Rattle.std.proofs.Common.{ℕ, ◌-◌, List, length, take, drop, ◌++◌, sym, ap, ◌∙◌}
use Rattle.commands.specs.Lists.{filled}
use Rattle.commands.proofs.ListLines.{mark_here, no_mark_here, nothing_to_fill, is_empty_so, is_some_so}
use Rattle.commands.proofs.list_text.filled.Goals as goal

pub returns-then-begins_with_mark : goal.returns-then-begins_with_mark
returns-then-begins_with_mark c =
    let rest = c.bytes.rest.now in
    c.in_ok-extend_from_slice-2.ensures.items
    ∙ ap (λ (text : List ℕ). text ++ take (length rest - 2) (drop 2 rest)) c.in_ok-extend_from_slice.ensures.items
    ∙ mark_here c.args.line.now c.bytes.text.items rest (sym c.begins_with_mark.ensures.begins ∙ c.if-begins_with_mark.true)
    ∙ c.bytes.invariant

pub bytes-preserved : goal.bytes-preserved
bytes-preserved c =
    let rest = c.bytes.rest.now in
    ap (λ (text : List ℕ). text ++ filled c.args.line.now (take (length rest - 1) (drop 1 rest))) c.in_ok-push.ensures.items
    ∙ no_mark_here c.args.line.now c.bytes.text.items rest (is_some_so rest _ c.is_empty.ensures c.bytes-test.true) (sym c.begins_with_mark.ensures.begins ∙ c.if-begins_with_mark.false)
    ∙ c.bytes.invariant

pub returns : goal.returns
returns c =
    sym (nothing_to_fill c.args.line.now c.bytes.text.items)
    ∙ ap (λ (rest : List ℕ). c.bytes.text.items ++ filled c.args.line.now rest) (sym (is_empty_so c.bytes.rest.now _ c.is_empty.ensures c.bytes-test.false))
    ∙ c.bytes.invariant
