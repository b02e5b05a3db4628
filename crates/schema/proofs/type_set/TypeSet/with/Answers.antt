use Rattle.std.proofs.lemmas.Grind.{common_steps}
use Rattle.std.proofs.lemmas.Result.{IfOk-from_err}
use Rattle.std.proofs.Common.{◌≡◌, Bool, true, false, ◌||◌, List, ℕ, refl, ap, ◌∙◌, arith}
use Rattle.std.specs.Prelude.{nat_eq}
use Rattle.std.proofs.lemmas.List.Folds.{list_any-append}
use Rattle.schema.specs.Superclasses.{has_number}
use Rattle.schema.proofs.type_set.TypeSet.with.Goals as goal

last_first : (a b : Bool) → (a || (b || false)) ≡ (b || a)
last_first true true = refl
last_first true false = refl
last_first false true = refl
last_first false false = refl

pub returns : goal.returns
returns c n =
    ap (λ (ts : List ℕ). has_number ts n) c.in_ok-push.ensures.items
    ∙ list_any-append (nat_eq n) c.self.inside.types.items _
    ∙ last_first (has_number c.self.inside.types.items n) (nat_eq n c.args.t)
    ∙ ap (λ (ts : List ℕ). nat_eq n c.args.t || has_number ts n) c.self.view_is

pub returns-in_err-push : goal.returns-in_err-push
returns-in_err-push c = IfOk-from_err _ _ c.from_residual-in_err-push.ensures.0

pub returns-in_err-grow : goal.returns-in_err-grow
returns-in_err-grow c = IfOk-from_err _ _ c.from_residual.ensures.0

pub invariant_of-result : goal.invariant_of-result
invariant_of-result c = grind (arith, common_steps)

pub mark-requires : goal.mark-requires
mark-requires c = grind (arith, common_steps)
