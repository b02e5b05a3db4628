use Rattle.std.proofs.lemmas.Grind.{common_steps}
use Rattle.std.proofs.Common.{◌≡◌, ℕ, List, [], ◌∷◌, ◌++◌, map, refl, sym, ap, subst, ◌∙◌, append_assoc, arith}
use Rattle.std.proofs.lemmas.List.{append-nil}
use Rattle.std.proofs.lemmas.Result.{IfErr-weaker, IfOk-weaker}
use Rattle.std.specs.Result.{MatchResult}
use Rattle.filter_text.specs.declared.filters.Filter.{Filter}
use Rattle.filter_text.specs.inner.Begins.{Faulty, IsMemory}
use Rattle.filter_text.specs.inner.Joins.{joined}
use Rattle.filter_text.specs.Items.{IsItem, SomeItem}
use Rattle.base.specs.Ends.{is_space}
use Rattle.filter_text.specs.Spells.{FilterContent, FilterContents, All_of, Any_of, Not_of, Leaf, No_more, And_then, contents_then, view, IsFilterComp, IsFilterList, IsSpacedList, SomeFilter, SomeFilterComp, SomeSpacedList}
use Rattle.filter_text.proofs.Runs.{exit_only, exit_front, only_done, faulty_in, begins_before, tail_eq, same_span, closed_space, begins_also}
use Rattle.filter_text.proofs.Texts.{view_not, view_item, views_push, comp_and, comp_or, comp_not, comp_item, item_only, list_only, filter_after, list_goes_on, list_ends, empty_filter, not_first}
use Rattle.filter_text.proofs.descent.+reader.Goals as goal

-- filter_at

pub filter_at-returns-in_default-clause-front : goal.filter_at-returns-in_default-clause-front
filter_at-returns-in_default-clause-front t c = record { done = []; rest = c.args.bytes.now; all = refl; from_end = refl; more = 40 ∷ 38 ∷ 41 ∷ []; viable = empty_filter }

pub filter_at-returns-in_err-filter-clause-only : goal.filter_at-returns-in_err-filter-clause-only
filter_at-returns-in_err-filter-clause-only t c f text more h e =
    exit_only _ c.from_residual.result _ c.from_residual.ensures.1
    (c.in_err-filter.ensures.only f h.0 (41 ∷ more) h.2 refl
    (tail_eq (sym c.in-Some.ensures ∙ e ∙ ap (λ xs. xs ++ more) h.1) ∙ append_assoc h.0 (41 ∷ []) more))

pub filter_at-returns-in_err-filter-clause-front : goal.filter_at-returns-in_err-filter-clause-front
filter_at-returns-in_err-filter-clause-front t c =
    exit_front SomeFilter c.args.bytes.now c.from_residual.result _ c.from_residual.ensures.1
    (faulty_in SomeFilterComp SomeFilter (40 ∷ []) c.args.bytes.now c.in-Some.inside.now c.in-Some.ensures (λ t h. (41 ∷ [], (h.0, (t, refl, h.1)))) _ c.in_err-filter.ensures.front)

pub filter_at-returns-clause-found : goal.filter_at-returns-clause-found
filter_at-returns-clause-found t c =
    let found = c.in_ok-filter.ensures.found in
    IfOk-weaker c.closed.result _ _
    (λ x done. (
      40 ∷ (found.0 ++ 41 ∷ []),
      (found.0, refl, subst (λ (f : Filter). IsFilterComp (view f) found.0) (sym done.0) found.1),
      c.in-Some.ensures ∙ ap (λ xs. 40 ∷ xs) (found.2 ∙ ap (λ xs. found.0 ++ xs) done.1 ∙ sym (append_assoc found.0 (41 ∷ []) x.1.now)),
    ))
    c.closed.ensures.done

pub filter_at-returns-clause-only : goal.filter_at-returns-clause-only
filter_at-returns-clause-only t c f text more h e =
    let read = c.in_ok-filter.ensures.only f h.0 (41 ∷ more) h.2 refl
    (tail_eq (sym c.in-Some.ensures ∙ e ∙ ap (λ xs. xs ++ more) h.1) ∙ append_assoc h.0 (41 ∷ []) more) in
    only_done _ _ _ c.closed.result c.closed.ensures.done c.closed.ensures.left (λ x done. (ap view done.0 ∙ read.0, tail_eq (sym done.1 ∙ read.1)))
    (λ fault left. not_first 41 c.in_ok-filter.end.now more refl left.1 read.1)

pub filter_at-returns-clause-front : goal.filter_at-returns-clause-front
filter_at-returns-clause-front t c =
    let found = c.in_ok-filter.ensures.found in
    IfErr-weaker c.closed.result _ _
    (λ fault left. subst (Faulty SomeFilter c.args.bytes.now) (sym left.0)
    record {
      done = 40 ∷ found.0;
      rest = c.in_ok-filter.end.now;
      all = c.in-Some.ensures ∙ ap (λ xs. 40 ∷ xs) found.2;
      from_end = refl;
      more = 41 ∷ [];
      viable = (view c.in_ok-filter.filter, (found.0, refl, found.1));
    })
    c.closed.ensures.left

-- comp_at

pub comp_at-returns-in-Some-clause-found : goal.comp_at-returns-in-Some-clause-found
comp_at-returns-in-Some-clause-found t c =
    IfOk-weaker c.list_at.result _ _
    (λ x h. (38 ∷ h.1, subst (λ (f : FilterContent). IsFilterComp f (38 ∷ h.1)) (sym h.2) (h.1, refl, h.3), c.in-Some.ensures ∙ ap (λ xs. 38 ∷ xs) h.4)) c.list_at.ensures.found

pub comp_at-returns-in-Some-clause-only : goal.comp_at-returns-in-Some-clause-only
comp_at-returns-in-Some-clause-only t c f text more h closed e =
    let operands = comp_and f text more c.in-Some.list.now h (sym c.in-Some.ensures ∙ e) in
    subst (λ (g : FilterContent). MatchResult c.list_at.result (λ x. (view x.0 ≡ g) × (x.1.now ≡ more)) IsMemory) (sym operands.2) (c.list_at.ensures.only operands.0 operands.1 more operands.3 closed operands.4)

pub comp_at-returns-in-Some-clause-front : goal.comp_at-returns-in-Some-clause-front
comp_at-returns-in-Some-clause-front t c =
    IfErr-weaker c.list_at.result _ _
    (faulty_in SomeSpacedList SomeFilterComp (38 ∷ []) c.args.bytes.now c.in-Some.list.now c.in-Some.ensures (λ t h. ([], (All_of h.0, (t ++ [], refl, subst (IsSpacedList h.0) (sym (append-nil t)) h.1)))))
    c.list_at.ensures.front

pub comp_at-returns-in-Some-after-clause-found : goal.comp_at-returns-in-Some-after-clause-found
comp_at-returns-in-Some-after-clause-found t c =
    IfOk-weaker c.list_at-in-Some-after.result _ _
    (λ x h. (124 ∷ h.1, subst (λ (f : FilterContent). IsFilterComp f (124 ∷ h.1)) (sym h.2) (h.1, refl, h.3), c.in-Some-after.ensures ∙ ap (λ xs. 124 ∷ xs) h.4)) c.list_at-in-Some-after.ensures.found

pub comp_at-returns-in-Some-after-clause-only : goal.comp_at-returns-in-Some-after-clause-only
comp_at-returns-in-Some-after-clause-only t c f text more h closed e =
    let operands = comp_or f text more c.in-Some-after.list.now h (sym c.in-Some-after.ensures ∙ e) in
    subst (λ (g : FilterContent). MatchResult c.list_at-in-Some-after.result (λ x. (view x.0 ≡ g) × (x.1.now ≡ more)) IsMemory) (sym operands.2) (c.list_at-in-Some-after.ensures.only operands.0 operands.1 more operands.3 closed operands.4)

pub comp_at-returns-in-Some-after-clause-front : goal.comp_at-returns-in-Some-after-clause-front
comp_at-returns-in-Some-after-clause-front t c =
    IfErr-weaker c.list_at-in-Some-after.result _ _
    (faulty_in SomeSpacedList SomeFilterComp (124 ∷ []) c.args.bytes.now c.in-Some-after.list.now c.in-Some-after.ensures (λ t h. ([], (Any_of h.0, (t ++ [], refl, subst (IsSpacedList h.0) (sym (append-nil t)) h.1)))))
    c.list_at-in-Some-after.ensures.front

pub comp_at-returns-in_err-operand-clause-only : goal.comp_at-returns-in_err-operand-clause-only
comp_at-returns-in_err-operand-clause-only t c f text more h closed e =
    let run = c.after_spaces.ensures.run in
    let not = comp_not f text more c.in-Some-after-2.one.now h (sym c.in-Some-after-2.ensures ∙ e) in
    exit_only _ c.from_residual.result _ c.from_residual.ensures.1
    (c.in_err-operand.ensures.only not.0 not.2 (not.3 ++ more) not.6
    (filter_after not.0 c.in-Some-after-2.one.now run.0 c.after_spaces.result.now not.1 not.2 (not.3 ++ more) run.1 run.2 c.after_spaces.ensures.stops not.5 not.6 not.8))

pub comp_at-returns-in_err-operand-clause-front : goal.comp_at-returns-in_err-operand-clause-front
comp_at-returns-in_err-operand-clause-front t c =
    let run = c.after_spaces.ensures.run in
    exit_front SomeFilterComp c.args.bytes.now c.from_residual.result _ c.from_residual.ensures.1
    (faulty_in SomeFilter SomeFilterComp (33 ∷ run.0) c.args.bytes.now c.after_spaces.result.now (c.in-Some-after-2.ensures ∙ ap (λ xs. 33 ∷ xs) run.2)
    (λ t h. ([], (Not_of h.0, (run.0, t, [], refl, run.1, h.1, tt)))) _ c.in_err-operand.ensures.front)

pub comp_at-returns-in-Some-after-2-clause-found : goal.comp_at-returns-in-Some-after-2-clause-found
comp_at-returns-in-Some-after-2-clause-found t c =
    let before = c.after_spaces.ensures.run in
    let after = c.after_spaces-in-Some-after-2.ensures.run in
    let found = c.in_ok-operand.ensures.found in
    let text = 33 ∷ (before.0 ++ (found.0 ++ after.0)) in (
      text,
      subst (λ (f : FilterContent). IsFilterComp f text) (sym (view_not c.in_ok-operand-2.operand ∙ ap (λ f. Not_of (view f)) c.in_ok-operand-2.ensures.ok)) (before.0, found.0, after.0, refl, before.1, found.1, after.1),
      c.in-Some-after-2.ensures ∙ ap (λ xs. 33 ∷ xs) (before.2 ∙ ap (λ xs. before.0 ++ xs) (found.2 ∙ ap (λ xs. found.0 ++ xs) after.2 ∙ sym (append_assoc found.0 after.0 c.after_spaces-in-Some-after-2.result.now))
          ∙ sym (append_assoc before.0 (found.0 ++ after.0) c.after_spaces-in-Some-after-2.result.now)),
    )

pub comp_at-returns-in-Some-after-2-clause-only : goal.comp_at-returns-in-Some-after-2-clause-only
comp_at-returns-in-Some-after-2-clause-only t c f text more h closed e =
    let run = c.after_spaces.ensures.run in
    let after = c.after_spaces-in-Some-after-2.ensures.run in
    let not = comp_not f text more c.in-Some-after-2.one.now h (sym c.in-Some-after-2.ensures ∙ e) in
    let read = c.in_ok-operand.ensures.only not.0 not.2 (not.3 ++ more) not.6
    (filter_after not.0 c.in-Some-after-2.one.now run.0 c.after_spaces.result.now not.1 not.2 (not.3 ++ more) run.1 run.2 c.after_spaces.ensures.stops not.5 not.6 not.8) in (
      view_not c.in_ok-operand-2.operand ∙ ap (λ f. Not_of (view f)) c.in_ok-operand-2.ensures.ok ∙ ap Not_of read.0 ∙ sym not.4,
      (same_span is_space after.0 not.3 c.after_spaces-in-Some-after-2.result.now more after.1 not.7 c.after_spaces-in-Some-after-2.ensures.stops (closed_space more closed) (sym after.2 ∙ read.1)).1,
    )

pub comp_at-returns-in-Ok-clause-only : goal.comp_at-returns-in-Ok-clause-only
comp_at-returns-in-Ok-clause-only t c f text more h closed e =
    let item = comp_item f c.args.bytes.now text more c.in_default.ensures c.in_default-after.ensures c.in_default-after-2.ensures h e in
    let cut = item_only item.0 c.args.bytes.now c.to_parenthesis.result.0.now c.to_parenthesis.result.1.now text more c.to_parenthesis.ensures.run c.to_parenthesis.ensures.stops c.to_parenthesis.ensures.all item.2 closed e in
    (view_item c.in-Ok.item ∙ ap Leaf (c.in-Ok.ensures.only item.0 (subst (λ (xs : List ℕ). IsItem item.0 xs) cut.0 item.2)) ∙ sym item.1, cut.1)

pub comp_at-returns-in-Err-Syntax-clause-only : goal.comp_at-returns-in-Err-Syntax-clause-only
comp_at-returns-in-Err-Syntax-clause-only t c f text more h closed e =
    let item = comp_item f c.args.bytes.now text more c.in_default.ensures c.in_default-after.ensures c.in_default-after-2.ensures h e in
    let cut = item_only item.0 c.args.bytes.now c.to_parenthesis.result.0.now c.to_parenthesis.result.1.now text more c.to_parenthesis.ensures.run c.to_parenthesis.ensures.stops c.to_parenthesis.ensures.all item.2 closed e in
    subst IsMemory c.in-Err-Syntax.field-0-is (c.in-Err-Syntax.ensures.only item.0 (subst (λ (xs : List ℕ). IsItem item.0 xs) cut.0 item.2))

pub comp_at-returns-in-Err-Syntax-clause-front : goal.comp_at-returns-in-Err-Syntax-clause-front
comp_at-returns-in-Err-Syntax-clause-front t c =
    begins_before SomeFilterComp c.args.bytes.now c.to_parenthesis.result.0.now c.to_parenthesis.result.1.now c.in-Err-Syntax.left c.to_parenthesis.ensures.all
    (begins_also SomeItem SomeFilterComp c.to_parenthesis.result.0.now c.in-Err-Syntax.left (λ t h. (Leaf h.0, h.1)) (subst (Faulty SomeItem c.to_parenthesis.result.0.now) c.in-Err-Syntax.field-0-is c.in-Err-Syntax.ensures.front))

-- list_at

pub list_at-operands-init : goal.list_at-operands-init
list_at-operands-init t c =
    let run = c.after_spaces-rest.ensures.run in
    let none = c.new-operands.ensures.items in
    record {
      no_longer = c.after_spaces-rest.ensures.no_longer;
      stops = c.after_spaces-rest.ensures.stops;
      found = (run.0, run.2, λ us t h. (run.0, t, refl, run.1, subst (λ (fs : List Filter). IsFilterList (contents_then (map view fs) us) t) (sym none) h));
      only = λ fs text more h closed e.
          let cut = list_only fs c.args.bytes.now text more run.0 c.after_spaces-rest.result.now h closed e run.1 run.2 c.after_spaces-rest.ensures.stops in
          (fs, cut.0, cut.1, cut.2, subst (λ (gs : List Filter). fs ≡ contents_then (map view gs) fs) (sym none) refl);
    }

pub list_at-operands-preserved : goal.list_at-operands-preserved
list_at-operands-preserved t c =
    let old = c.operands.invariant.found in
    let found = c.in_ok-operand.ensures.found in
    let run = c.after_spaces-rest-in-operands.ensures.run in
    let rest = c.after_spaces-rest-in-operands.result.now in
    let operands = c.operands.operands.items in
    let more_operands = c.push.new.self.items in
    let pushed = c.in_ok-push.ensures.items in
    let shorter = c.in_ok-operand.ensures.shorter in
    record {
      no_longer = omega (arith, shorter, c.operands.invariant.no_longer, c.after_spaces-rest-in-operands.ensures.no_longer);
      stops = c.after_spaces-rest-in-operands.ensures.stops;
      found = (
        old.0 ++ (found.0 ++ run.0),
        old.1 ∙ ap (λ xs. old.0 ++ xs) (found.2 ∙ ap (λ xs. found.0 ++ xs) run.2 ∙ sym (append_assoc found.0 run.0 rest)) ∙ sym (append_assoc old.0 (found.0 ++ run.0) rest),
        λ us t h. subst (λ (fs : FilterContents). IsSpacedList fs ((old.0 ++ (found.0 ++ run.0)) ++ t)) (sym (views_push operands more_operands c.in_ok-operand.operand us pushed))
            (subst (IsSpacedList (contents_then (map view operands) (And_then (view c.in_ok-operand.operand) us)))
            (ap (λ xs. old.0 ++ xs) (sym (append_assoc found.0 run.0 t)) ∙ sym (append_assoc old.0 (found.0 ++ run.0) t))
            (old.2 (And_then (view c.in_ok-operand.operand) us) (found.0 ++ (run.0 ++ t)) (found.0, run.0 ++ t, refl, found.1, (run.0, t, refl, run.1, h)))),
      );
      only = λ fs text more h closed e.
          let o = c.operands.invariant.only fs text more h closed e in
          let opening = c.operands-test.ensures.yes refl in
          let next = list_goes_on o.0 c.operands.rest.now opening.0 o.1 more o.2 closed opening.1 o.3 in
          let read = c.in_ok-operand.ensures.only next.0 next.2 (next.3 ++ more) next.5 next.7 in
          let cut = list_only next.1 c.in_ok-operand.more.now next.3 more run.0 rest next.6 closed read.1 run.1 run.2 c.after_spaces-rest-in-operands.ensures.stops in (
            next.1,
            cut.0,
            cut.1,
            cut.2,
            o.4 ∙ ap (contents_then (map view operands)) (next.4 ∙ ap (λ f. And_then f next.1) (sym read.0)) ∙ sym (views_push operands more_operands c.in_ok-operand.operand next.1 pushed),
          );
    }

pub list_at-returns-clause-found : goal.list_at-returns-clause-found
list_at-returns-clause-found t c =
    let old = c.operands.invariant.found in
    (contents_then (map view c.operands.operands.items) No_more, old.0 ++ [], c.joined.ensures, old.2 No_more [] refl, old.1 ∙ ap (λ xs. xs ++ c.operands.rest.now) (sym (append-nil old.0)))

pub list_at-returns-clause-only : goal.list_at-returns-clause-only
list_at-returns-clause-only t c fs text more h closed e =
    let o = c.operands.invariant.only fs text more h closed e in
    let none = list_ends o.0 c.operands.rest.now o.1 more o.2 (c.operands-test.ensures.no refl) o.3 in
    (c.joined.ensures ∙ ap (joined c.args.joining) (sym (o.4 ∙ ap (contents_then (map view c.operands.operands.items)) none.0)), none.1)

pub list_at-returns-in_err-operand-clause-only : goal.list_at-returns-in_err-operand-clause-only
list_at-returns-in_err-operand-clause-only t c fs text more h closed e =
    let o = c.operands.invariant.only fs text more h closed e in
    let opening = c.operands-test.ensures.yes refl in
    let next = list_goes_on o.0 c.operands.rest.now opening.0 o.1 more o.2 closed opening.1 o.3 in
    exit_only _ c.from_residual.result _ c.from_residual.ensures.1 (c.in_err-operand.ensures.only next.0 next.2 (next.3 ++ more) next.5 next.7)

pub list_at-returns-in_err-operand-clause-front : goal.list_at-returns-in_err-operand-clause-front
list_at-returns-in_err-operand-clause-front t c =
    let old = c.operands.invariant.found in
    exit_front SomeSpacedList c.args.bytes.now c.from_residual.result _ c.from_residual.ensures.1
    (faulty_in SomeFilter SomeSpacedList old.0 c.args.bytes.now c.operands.rest.now old.1
    (λ t h. ([], (contents_then (map view c.operands.operands.items) (And_then h.0 No_more), old.2 (And_then h.0 No_more) (t ++ []) (t, [], refl, h.1, ([], [], refl, tt, refl)))))
    _ c.in_err-operand.ensures.front)

pub comp_at-overflow_add-result : goal.comp_at-overflow_add-result
comp_at-overflow_add-result t c = grind (arith, common_steps)

pub comp_at-returns-in-Ok-clause-no_longer : goal.comp_at-returns-in-Ok-clause-no_longer
comp_at-returns-in-Ok-clause-no_longer t c = grind (arith, common_steps)

pub comp_at-returns-in-Some-after-clause-no_longer : goal.comp_at-returns-in-Some-after-clause-no_longer
comp_at-returns-in-Some-after-clause-no_longer t c = grind (arith, common_steps)

pub filter_at-returns-clause-shorter : goal.filter_at-returns-clause-shorter
filter_at-returns-clause-shorter t c = grind (arith, common_steps)

pub filter_at-returns-in_default-clause-found : goal.filter_at-returns-in_default-clause-found
filter_at-returns-in_default-clause-found t c = grind (arith, common_steps)
