use Rattle.std.proofs.lemmas.Result.{IfOk-from_err}
use Rattle.std.proofs.Common.{◌∙◌, length, List, ap, subst, sym, ◌+◌}
use Rattle.std.proofs.lemmas.List.{length-append}
use Rattle.schema.specs.Classes.{no_class}
use Rattle.schema.specs.declared.settled.Settled.{Settled}
use Rattle.schema.specs.inner.Settled.{settled_at, IsSettled, IsSettledBy}
use Rattle.schema.proofs.Lineages.{same_place, known_at, one_more}
use Rattle.schema.proofs.settled.settle.Goals as goal

pub settle_class-requires : goal.settle_class-requires
settle_class-requires c =
    known_at c.args.classes.now c.requires c.loop-c.c c.index-classes-c.result c.deref.result.now c.loop-c-test.true (c.index-classes-c.is ∙ same_place c.args.classes.now c.loop-c.c c.index-classes-c.result no_class c.loop-c-test.true)
    (ap (λ (xs : List Settled). length xs) c.deref.ensures.value ∙ c.loop-c.invariant.sized)

pub loop-c-preserved : goal.loop-c-preserved
loop-c-preserved c =
    let classes = c.args.classes.now in
    let above : List Settled = c.loop-c.settled.items in
    record {
      sized = ap (λ (xs : List Settled). length xs) c.in_ok-push.ensures.items ∙ length-append above _ ∙ ap (λ n. n + 1) c.loop-c.invariant.sized;
      each = λ k lt.
          subst (λ (xs : List Settled). IsSettled classes k (settled_at xs k)) (sym c.in_ok-push.ensures.items)
          (one_more classes c.requires c.loop-c.c c.index-classes-c.result above c.in_ok-settle_class.field-0 (c.index-classes-c.is ∙ same_place classes c.loop-c.c c.index-classes-c.result no_class c.loop-c-test.true) c.loop-c.invariant.sized c.loop-c.invariant.each
          (subst (λ (xs : List Settled). IsSettledBy xs c.index-classes-c.result c.loop-c.c c.in_ok-settle_class.field-0) c.deref.ensures.value c.in_ok-settle_class.ensures) k lt);
    }

pub returns-in_err-settled : goal.returns-in_err-settled
returns-in_err-settled c = IfOk-from_err _ _ c.from_residual.ensures.0

pub returns-in_err-push : goal.returns-in_err-push
returns-in_err-push c = IfOk-from_err _ _ c.from_residual-in_err-push.ensures.0

pub returns-in_err-settle_class : goal.returns-in_err-settle_class
returns-in_err-settle_class c = IfOk-from_err _ _ c.from_residual-in_err-settle_class.ensures.0
