use Rattle.std.proofs.Common.{◌≡◌, ℕ, ◌+◌, List, Ok, drop, get_or, sym, ap, ◌∙◌}
use Rattle.std.proofs.lemmas.List.{drop_more, drop_all}
use Rattle.std.proofs.lemmas.Result.{err_from_is_err_and}
use Rattle.base.specs.Answers.{each}
use Rattle.base.proofs.Each.{with_front, nothing_front, on_cons, ends_cons, done_nil}
use Rattle.dir_conf.specs.NamesInLines.{type_named}
use Rattle.dir_conf.specs.Reads.{fault_at}
use Rattle.dir_conf.proofs.class_lines.types_named.Goals as goal

pub loop-name-init : goal.loop-name-init
loop-name-init c = ap (λ (front : List ℕ). with_front front (each (type_named c.args.types.now c.args.line) c.args.names.now)) c.in_ok-numbers.ensures.items ∙ nothing_front _

pub loop-name-preserved : goal.loop-name-preserved
loop-name-preserved c =
    let f = type_named c.args.types.now c.args.line in
    let names = c.args.names.now in
    let i = c.loop-name.name-index in
    let name : c.as_slice.result.now ≡ get_or names i c.name-item.result = c.as_slice.ensures ∙ c.name-item.is in
    ap (λ (front : List ℕ). with_front front (each f (drop (i + 1) names))) c.in_ok-push.ensures.items
    ∙ on_cons f (drop i names) (get_or names i c.name-item.result) (drop (i + 1) names) c.loop-name.numbers.items c.in_ok-type_named.field-0 (each f names) (drop_more names i c.name-item.result c.loop-name-test.true) (ap f (sym name) ∙ c.in_ok-type_named.ensures.gives) c.loop-name.invariant

pub returns-in_err-type_named : goal.returns-in_err-type_named
returns-in_err-type_named c =
    let f = type_named c.args.types.now c.args.line in
    let names = c.args.names.now in
    let i = c.loop-name.name-index in
    let name : c.as_slice.result.now ≡ get_or names i c.name-item.result = c.as_slice.ensures ∙ c.name-item.is in
    let p = err_from_is_err_and c.from_residual-in_err-type_named.result c.from_residual-in_err-type_named.ensures.1 in
    rw (p.1, p.2)
    (ends_cons f (drop i names) (get_or names i c.name-item.result) (drop (i + 1) names) (fault_at c.in_err-type_named.field-0.0) c.loop-name.numbers.items (each f names) (drop_more names i c.name-item.result c.loop-name-test.true) (rw (← name) c.in_err-type_named.ensures.gives) c.loop-name.invariant)

pub returns : goal.returns
returns c =
    let f = type_named c.args.types.now c.args.line in
    done_nil f (drop c.loop-name.name-index c.args.names.now) c.loop-name.numbers.items (each f c.args.names.now) (drop_all c.loop-name.name-index c.args.names.now c.loop-name-test.false) c.loop-name.invariant ∙ ap (λ (ns : List ℕ). Ok ns) (sym c.from_vec.ensures)
