use Rattle.std.proofs.lemmas.Grind.{common_steps}
use Rattle.std.proofs.Common.{◌≡◌, ◌-◌, Bool, true, cond, List, ℕ, ◌∷◌, [], ◌++◌, length, get_or, slice_set, ap, sym, ◌∙◌, arith}
use Rattle.std.proofs.lemmas.Result.{on_ok_weaker, IfOk-from_err}
use Rattle.definitions.specs.declared.lines.Line.{Line}
use Rattle.definitions.specs.inner.Lines.{last_goes_on, join_last}
use Rattle.definitions.proofs.LastLine.{begun, some_line, joined_last}
use Rattle.definitions.proofs.lines.add_line.Goals as goal

pub join-requires : goal.join-requires
join-requires c = begun c.deref.result.now c.args.text.now (sym c.last_goes_on.ensures ∙ c.if-last_goes_on.true)

pub returns-then-last_goes_on : goal.returns-then-last_goes_on
returns-then-last_goes_on c =
    let lines = c.args.lines.now.items in
    let seen : c.deref.result.now ≡ lines = c.deref.ensures.value in
    let goes : last_goes_on lines c.args.text.now ≡ true = ap (λ (ls : List Line). last_goes_on ls c.args.text.now) (sym seen) ∙ sym c.last_goes_on.ensures ∙ c.if-last_goes_on.true in
    let len : c.len-last.result ≡ length lines = c.len-last.ensures ∙ c.args.lines.now.ok.0 in
    on_ok_weaker c.join.result
    (λ put.
    ap (λ (n : ℕ). slice_set lines (n - 1) c.join.new.self) len
    ∙ joined_last lines c.index_mut.result.now c.join.new.self c.args.text.now (some_line lines c.args.text.now goes) (c.index_mut.ensures.value ∙ ap (λ (n : ℕ). get_or lines (n - 1) c.index_mut.result.now) len) put
    ∙ sym (ap (λ (b : Bool). cond b (join_last lines c.args.text.now) (lines ++ (record { number = c.args.number; text = c.args.text.now }) ∷ [])) goes))
    c.join.ensures

pub overflow_sub-last : goal.overflow_sub-last
overflow_sub-last c = grind (arith, common_steps)

pub index_mut-requires : goal.index_mut-requires
index_mut-requires c = grind (arith, common_steps)

pub returns-in_err-push : goal.returns-in_err-push
returns-in_err-push c = grind arith

pub returns-in_err-from_slice : goal.returns-in_err-from_slice
returns-in_err-from_slice c = IfOk-from_err _ _ c.from_residual.ensures.0
