use Rattle.std.proofs.Common.{ℕ, List, cond, Some, sym, ap, subst, ◌∙◌}
use Rattle.std.proofs.lemmas.Result.{IfOk-from_err}
use Rattle.std.specs.BTreeMap.{get}
use Rattle.std.specs.Cmp.Lexicographic.{slice_cmp}
use Rattle.std.specs.Ordering.{nat_cmp, is_eq}
use Rattle.entries.proofs.LeftFrom.{AtStart, goes_on}
use Rattle.entries.proofs.values_draft.first_places.Goals as goal

pub loop-value-preserved : goal.loop-value-preserved
loop-value-preserved c =
    let old = c.loop-value.places in
    let new = c.add_place.new.places in
    record {
      can = c.loop-value.invariant.can;
      start = subst (λ (n : ℕ). AtStart new.since n c.next.new.self c.args.values.now) (sym c.in_ok-add_place.ensures.count) (goes_on old.since new.since old.count c.loop-value.value-iterator c.next.new.self c.args.values.now c.in-Some.value.now
          c.in-Some.ensures.steps c.loop-value.invariant.start
          (λ q. c.in_ok-add_place.ensures.since q ∙ ap (λ (n : List ℕ). cond (is_eq (slice_cmp nat_cmp n q)) (Some 0) (get (slice_cmp nat_cmp) old.since q)) c.norm.ensures));
    }

pub returns-in_err-add_place : goal.returns-in_err-add_place
returns-in_err-add_place c = IfOk-from_err _ _ c.from_residual.ensures.0
