use Rattle.std.proofs.Common.{ℕ, List, [], ◌++◌, sym, ap, subst, ◌∙◌}
use Rattle.std.proofs.lemmas.List.{append-nil}
use Rattle.std.proofs.lemmas.Result.{IfOk-weaker}
use Rattle.filter_text.specs.Values.{IsValue, SomeValue}
use Rattle.filter_text.proofs.Runs.{exit_only, only_read, front_left}
use Rattle.filter_text.proofs.ValueTexts.{whole_value}
use Rattle.filter_text.proofs.values.value_of.Goals as goal

pub returns-in_err-value-clause-only : goal.returns-in_err-value-clause-only
returns-in_err-value-clause-only c v h =
    exit_only _ c.from_residual.result _ c.from_residual.ensures.1 (c.in_err-value.ensures.none v c.args.text.now [] h tt (sym (append-nil c.args.text.now)))

pub returns-clause-found : goal.returns-clause-found
returns-clause-found c =
    let found = c.in_ok-value.ensures.found in
    IfOk-weaker c.read_whole.result _ _
    (λ v done. subst (λ (xs : List ℕ). IsValue xs c.args.text.now) (sym done.0) (subst (IsValue c.in_ok-value.value) (sym (found.2 ∙ ap (λ xs. found.0 ++ xs) done.1 ∙ append-nil found.0)) found.1)) c.read_whole.ensures.done

pub returns-clause-only : goal.returns-clause-only
returns-clause-only c v h =
    let found = c.in_ok-value.ensures.found in
    let same = whole_value c.in_ok-value.value v c.args.text.now c.in_ok-value.rest.now found.0 found.1 c.in_ok-value.ensures.stops found.2 h in
    only_read _ c.read_whole.result c.in_ok-value.value c.in_ok-value.rest.now c.read_whole.ensures.done c.read_whole.ensures.left same.0 same.1

pub returns-clause-front : goal.returns-clause-front
returns-clause-front c =
    let found = c.in_ok-value.ensures.found in
    front_left SomeValue c.args.text.now c.read_whole.result found.0 c.in_ok-value.rest.now c.read_whole.ensures.left found.2 (c.in_ok-value.value, found.1)
