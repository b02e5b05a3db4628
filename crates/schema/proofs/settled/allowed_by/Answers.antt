use Rattle.std.proofs.Common.{◌||◌, ◌<◌, ◌∙◌, ℕ, length, List, drop, get_or, sym, ap, subst}
use Rattle.std.proofs.Math.Bool.{or-false}
use Rattle.std.specs.List.{list_any, AllByRecursion}
use Rattle.schema.specs.Superclasses.{has_number}
use Rattle.schema.specs.inner.Settled.{settled_at}
use Rattle.schema.specs.declared.settled.Settled.{Settled}
use Rattle.schema.proofs.Lineages.{union_step, known_step}
use Rattle.schema.proofs.Rest.{none_left}
use Rattle.schema.proofs.settled.allowed_by.Goals as goal

pub loop-superior-preserved : goal.loop-superior-preserved
loop-superior-preserved c =
    let above = c.args.above.now in
    let some : c.loop-superior.superior-index < length c.args.class.now.superiors = subst (λ (xs : List ℕ). c.loop-superior.superior-index < length xs) c.as_slice-superior-items.ensures c.loop-superior-test.true in
    let known = known_step (λ s. s < length above) c.args.class.now.superiors c.loop-superior.superior-index some c.loop-superior.invariant.known in
    record {
      known = known.1;
      rest = λ t.
          union_step (λ s n. has_number (settled_at above s).allowed n) c.args.class.now.superiors c.loop-superior.superior-index (has_number c.loop-superior.set) (has_number c.in_ok-set-2.set) some
          (λ n. c.in_ok-set-2.ensures n ∙ ap (λ (xs : List ℕ). has_number xs n || has_number c.loop-superior.set n) (c.as_slice-in-loop-superior.ensures ∙ ap (λ (s : Settled). s.allowed) (c.at.ensures ∙ ap (λ (xs : List ℕ). settled_at above (get_or xs c.loop-superior.superior-index 0)) c.as_slice-superior-items.ensures))) t
          ∙ c.loop-superior.invariant.rest t;
    }

pub at-requires : goal.at-requires
at-requires c =
    (known_step (λ s. s < length c.args.above.now) _ c.loop-superior.superior-index c.loop-superior-test.true (subst (λ (xs : List ℕ). AllByRecursion (λ s. s < length c.args.above.now) (drop c.loop-superior.superior-index xs)) (sym c.as_slice-superior-items.ensures) c.loop-superior.invariant.known)).0

pub loop-superior-init : goal.loop-superior-init
loop-superior-init c = record {
  known = c.requires;
  rest = λ t.
      ap (λ b. b || list_any (λ s. has_number (settled_at c.args.above.now s).allowed t) c.args.class.now.superiors)
      (c.in_ok-set.ensures t
      ∙ ap (λ b. has_number c.as_slice-2.result.now t || b) (c.in_ok-own.ensures t ∙ (λ i. has_number (c.as_slice.ensures i) t || has_number (c.new.ensures i) t) ∙ or-false (has_number c.args.class.now.may t))
      ∙ ap (λ (ts : List ℕ). has_number ts t || has_number c.args.class.now.may t) c.as_slice-2.ensures);
}

pub returns : goal.returns
returns c t =
    sym (or-false (has_number c.loop-superior.set t))
    ∙ sym (ap (λ (xs : List ℕ). has_number c.loop-superior.set t || list_any (λ s. has_number (settled_at c.args.above.now s).allowed t) xs) (none_left c.args.class.now.superiors _ c.loop-superior.superior-index c.as_slice-superior-items.ensures c.loop-superior-test.false))
    ∙ c.loop-superior.invariant.rest t
