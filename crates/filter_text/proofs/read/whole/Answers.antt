use Rattle.std.proofs.Common.{[], ◌++◌, refl, sym, ap, subst, ◌∙◌, append_assoc, inl, inr}
use Rattle.std.proofs.lemmas.Result.{IfOk-weaker}
use Rattle.filter_text.specs.declared.filters.Filter.{Filter}
use Rattle.std.proofs.lemmas.List.{append-nil}
use Rattle.filter_text.specs.Spells.{view, FilterText, IsFilterComp, SomeFilter, SomeFilterComp, SomeText}
use Rattle.filter_text.proofs.Runs.{exit_only, exit_front, faulty_in, only_read, front_left}
use Rattle.filter_text.proofs.Wholes.{whole_wrapped, whole_bare, all_skipped}
use Rattle.filter_text.proofs.read.whole.Goals as goal

pub returns-in_err-filter-clause-only : goal.returns-in_err-filter-clause-only
returns-in_err-filter-clause-only c f h =
    let run = c.after_spaces-start.ensures.run in
    let opening = c.if-opens.ensures.yes refl in
    let w = whole_wrapped f c.args.text.now run.0 c.after_spaces-start.result.now opening.0 run.1 c.after_spaces-start.ensures.stops run.2 opening.1 h in
    exit_only _ c.from_residual.result _ c.from_residual.ensures.1 (c.in_err-filter.ensures.only f w.0 w.1 w.3 w.2)

pub returns-in_err-filter-clause-front : goal.returns-in_err-filter-clause-front
returns-in_err-filter-clause-front c =
    let run = c.after_spaces-start.ensures.run in
    exit_front SomeText c.args.text.now c.from_residual.result _ c.from_residual.ensures.1
    (faulty_in SomeFilter SomeText run.0 c.args.text.now c.after_spaces-start.result.now run.2 (λ t h. ([], (h.0, inl (run.0, t, [], refl, run.1, h.1, tt)))) _ c.in_err-filter.ensures.front)

pub returns-then-opens-clause-found : goal.returns-then-opens-clause-found
returns-then-opens-clause-found c =
    let run = c.after_spaces-start.ensures.run in
    let after = c.after_spaces.ensures.run in
    let found = c.in_ok-filter.ensures.found in
    let start = c.after_spaces-start.result.now in
    IfOk-weaker c.read_whole.result _ _
    (λ f done. subst (λ (g : Filter). FilterText (view g) c.args.text.now) (sym done.0) (inl (
      run.0,
      found.0,
      after.0,
      run.2 ∙ ap (λ xs. run.0 ++ xs) (found.2 ∙ ap (λ xs. found.0 ++ xs) (after.2 ∙ ap (λ xs. after.0 ++ xs) done.1 ∙ append-nil after.0)),
      run.1,
      found.1,
      after.1,
    )))
    c.read_whole.ensures.done

pub returns-then-opens-clause-only : goal.returns-then-opens-clause-only
returns-then-opens-clause-only c f h =
    let run = c.after_spaces-start.ensures.run in
    let opening = c.if-opens.ensures.yes refl in
    let w = whole_wrapped f c.args.text.now run.0 c.after_spaces-start.result.now opening.0 run.1 c.after_spaces-start.ensures.stops run.2 opening.1 h in
    let read = c.in_ok-filter.ensures.only f w.0 w.1 w.3 w.2 in
    let after = c.after_spaces.ensures.run in
    let none = all_skipped w.1 after.0 c.after_spaces.result.now w.4 after.1 c.after_spaces.ensures.stops (sym read.1 ∙ after.2) in
    only_read _ c.read_whole.result c.in_ok-filter.filter c.after_spaces.result.now c.read_whole.ensures.done c.read_whole.ensures.left read.0 none

pub returns-then-opens-clause-front : goal.returns-then-opens-clause-front
returns-then-opens-clause-front c =
    let run = c.after_spaces-start.ensures.run in
    let after = c.after_spaces.ensures.run in
    let found = c.in_ok-filter.ensures.found in
    let rest = c.after_spaces.result.now in
    let done = run.0 ++ (found.0 ++ after.0) in
    front_left SomeText c.args.text.now c.read_whole.result done rest c.read_whole.ensures.left
    (run.2 ∙ ap (λ xs. run.0 ++ xs) (found.2 ∙ ap (λ xs. found.0 ++ xs) after.2 ∙ sym (append_assoc found.0 after.0 rest)) ∙ sym (append_assoc run.0 (found.0 ++ after.0) rest))
    (view c.in_ok-filter.filter, inl (run.0, found.0, after.0, refl, run.1, found.1, after.1))

pub returns-in_err-filter-2-clause-only : goal.returns-in_err-filter-2-clause-only
returns-in_err-filter-2-clause-only c f h =
    let run = c.after_spaces-start.ensures.run in
    let w = whole_bare f c.args.text.now run.0 c.after_spaces-start.result.now run.1 c.after_spaces-start.ensures.stops run.2 (c.if-opens.ensures.no refl) h in
    exit_only _ c.from_residual-in_err-filter-2.result _ c.from_residual-in_err-filter-2.ensures.1 (c.in_err-filter-2.ensures.only f c.after_spaces-start.result.now [] w tt (sym (append-nil c.after_spaces-start.result.now)))

pub returns-in_err-filter-2-clause-front : goal.returns-in_err-filter-2-clause-front
returns-in_err-filter-2-clause-front c =
    let run = c.after_spaces-start.ensures.run in
    exit_front SomeText c.args.text.now c.from_residual-in_err-filter-2.result _ c.from_residual-in_err-filter-2.ensures.1
    (faulty_in SomeFilterComp SomeText run.0 c.args.text.now c.after_spaces-start.result.now run.2 (λ t h. ([], (h.0, inr (run.0, t ++ [], refl, run.1, subst (IsFilterComp h.0) (sym (append-nil t)) h.1)))) _ c.in_err-filter-2.ensures.front)

pub returns-clause-found : goal.returns-clause-found
returns-clause-found c =
    let run = c.after_spaces-start.ensures.run in
    let found = c.in_ok-filter-2.ensures.found in
    IfOk-weaker c.read_whole-2.result _ _
    (λ f done. subst (λ (g : Filter). FilterText (view g) c.args.text.now) (sym done.0)
    (inr (run.0, found.0, run.2 ∙ ap (λ xs. run.0 ++ xs) (found.2 ∙ ap (λ xs. found.0 ++ xs) done.1 ∙ append-nil found.0), run.1, found.1)))
    c.read_whole-2.ensures.done

pub returns-clause-only : goal.returns-clause-only
returns-clause-only c f h =
    let run = c.after_spaces-start.ensures.run in
    let w = whole_bare f c.args.text.now run.0 c.after_spaces-start.result.now run.1 c.after_spaces-start.ensures.stops run.2 (c.if-opens.ensures.no refl) h in
    let read = c.in_ok-filter-2.ensures.only f c.after_spaces-start.result.now [] w tt (sym (append-nil c.after_spaces-start.result.now)) in
    only_read _ c.read_whole-2.result c.in_ok-filter-2.filter c.in_ok-filter-2.end.now c.read_whole-2.ensures.done c.read_whole-2.ensures.left read.0 read.1

pub returns-clause-front : goal.returns-clause-front
returns-clause-front c =
    let run = c.after_spaces-start.ensures.run in
    let found = c.in_ok-filter-2.ensures.found in
    let end = c.in_ok-filter-2.end.now in
    front_left SomeText c.args.text.now c.read_whole-2.result (run.0 ++ found.0) end c.read_whole-2.ensures.left
    (run.2 ∙ ap (λ xs. run.0 ++ xs) found.2 ∙ sym (append_assoc run.0 found.0 end)) (view c.in_ok-filter-2.filter, inr (run.0, found.0, refl, run.1, found.1))
