use Rattle.std.proofs.Common.{ℕ, ◌+◌, List, map, drop, ap, ◌∙◌, Bor}
use Rattle.std.proofs.lemmas.Result.{err_from_is_err_and}
use Rattle.base.specs.Answers.{each}
use Rattle.base.proofs.Each.{with_front, nothing_front, goes_on, ends, is_done}
use Rattle.dir_conf.specs.Reads.{fault_at}
use Rattle.schema.specs.declared.slots.IndexKind.{IndexKind}
use Rattle.dir_conf.specs.IndexLines.{kind_named}
use Rattle.dir_conf.proofs.index_lines.kinds_named.Goals as goal

abbrev text : Bor (List ℕ) → List ℕ
text w = w.now

pub loop-word-init : goal.loop-word-init
loop-word-init c =
    let read = kind_named c.args.line in
    ap (λ (front : List IndexKind). with_front front (each read (map text c.args.words.now))) c.in_ok-kinds.ensures.items ∙ nothing_front (each read (map text c.args.words.now))

pub loop-word-preserved : goal.loop-word-preserved
loop-word-preserved c =
    let read = kind_named c.args.line in
    ap (λ (front : List IndexKind). with_front front (each read (map text (drop (c.loop-word.word-index + 1) c.args.words.now)))) c.in_ok-push.ensures.items
    ∙ goes_on read text c.args.words.now c.loop-word.word-index _ c.loop-word.kinds.items c.in_ok-kind_named.field-0 (each read (map text c.args.words.now)) c.loop-word-test.true
    c.in_ok-kind_named.ensures c.loop-word.invariant

pub returns-in_err-kind_named : goal.returns-in_err-kind_named
returns-in_err-kind_named c =
    let read = kind_named c.args.line in
    let p = err_from_is_err_and c.from_residual-in_err-kind_named.result c.from_residual-in_err-kind_named.ensures.1 in
    rw (p.1, p.2)
    (ends read text c.args.words.now c.loop-word.word-index _ (fault_at c.in_err-kind_named.field-0.0) c.loop-word.kinds.items (each read (map text c.args.words.now)) c.loop-word-test.true
    c.in_err-kind_named.ensures c.loop-word.invariant)

pub returns : goal.returns
returns c =
    let read = kind_named c.args.line in
    is_done read text c.args.words.now c.loop-word.word-index c.loop-word.kinds.items (each read (map text c.args.words.now)) c.loop-word-test.false c.loop-word.invariant
