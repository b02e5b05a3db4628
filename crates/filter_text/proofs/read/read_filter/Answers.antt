use Rattle.std.proofs.Common.{◌≡◌, ℕ, Some, None, Ok, Err, Result, List, ap, subst, ◌∙◌}
use Rattle.filter_text.specs.declared.filters.Filter.{Filter}
use Rattle.filter_text.specs.declared.filter_fault.FilterFault.{FilterFault}
use Rattle.filter_text.specs.declared.filter_fault.FilterFault.TheVariants.{At, OutOfMemory}
use Rattle.filter_text.specs.declared.filter_fault.FilterFaultKind.TheVariants.{Deep, Syntax}
use Rattle.filter_text.specs.Depth.{IsDeepAt, added}
use Rattle.filter_text.specs.inner.Begins.{IsMemory, Faulty}
use Rattle.filter_text.specs.inner.Depth.{deep_from}
use Rattle.filter_text.specs.Spells.{SomeText}
use Rattle.filter_text.proofs.Depths.{deep_exact, deep_or_shallow}
use Rattle.filter_text.proofs.Wholes.{begins_at}
use Rattle.filter_text.proofs.read.read_filter.Goals as goal

same_at : {at place : ℕ} → Some at ≡ Some place → at ≡ place
same_at e = cc

same_place : {at place : ℕ} → At at Deep ≡ At place Deep → at ≡ place
same_place e = cc

same_error : {e f : FilterFault} → ◌≡◌ {A = Result Filter FilterFault} (Err e) (Err f) → e ≡ f
same_error h = cc

ok_not_err : {f : Filter} {e : FilterFault} → ◌≡◌ {A = Result Filter FilterFault} (Ok f) (Err e) → ⊥
ok_not_err h = cc

memory_not_deep : {at : ℕ} → OutOfMemory ≡ At at Deep → ⊥
memory_not_deep h = cc

syntax_not_deep : {at place : ℕ} → At at Syntax ≡ At place Deep → ⊥
syntax_not_deep h = cc

not_deep : (text : List ℕ) (at : ℕ) → None ≡ deep_from 512 0 (added text) 0 text → IsDeepAt text at → ⊥
not_deep text at none d = let clash : None ≡ Some at = none ∙ deep_exact text at d in cc

pub returns-in-Some-clause-only : goal.returns-in-Some-clause-only
returns-in-Some-clause-only c f h shallow = deep_or_shallow c.args.text.now c.in-Some.at c.in-Some.ensures.shallow shallow

pub returns-in-Some-clause-deep : goal.returns-in-Some-clause-deep
returns-in-Some-clause-deep c at = (
  (λ d. ap (λ (n : ℕ). Err (At n Deep)) (same_at (c.in-Some.ensures.same ∙ deep_exact c.args.text.now at d))),
  (λ e. subst (IsDeepAt c.args.text.now) (same_place (same_error e)) c.in-Some.ensures.shallow),
)

pub returns-in-Ok-clause-deep : goal.returns-in-Ok-clause-deep
returns-in-Ok-clause-deep c at = ((λ d. absurd (not_deep c.args.text.now at c.in_default.ensures.same d)), (λ e. absurd (ok_not_err e)))

pub returns-in-Err-OutOfMemory-clause-deep : goal.returns-in-Err-OutOfMemory-clause-deep
returns-in-Err-OutOfMemory-clause-deep c at = ((λ d. absurd (not_deep c.args.text.now at c.in_default.ensures.same d)), (λ e. absurd (memory_not_deep (same_error e))))

pub returns-in-Err-Syntax-clause-deep : goal.returns-in-Err-Syntax-clause-deep
returns-in-Err-Syntax-clause-deep c at = ((λ d. absurd (not_deep c.args.text.now at c.in_default.ensures.same d)), (λ e. absurd (syntax_not_deep (same_error e))))

pub returns-in-Ok-clause-only : goal.returns-in-Ok-clause-only
returns-in-Ok-clause-only c f h shallow = c.in-Ok.ensures.only f h

pub returns-in-Err-Syntax-clause-only : goal.returns-in-Err-Syntax-clause-only
returns-in-Err-Syntax-clause-only c f h shallow = subst IsMemory c.in-Err-Syntax.field-0-is (c.in-Err-Syntax.ensures.only f h)

pub returns-in-Err-Syntax-clause-front : goal.returns-in-Err-Syntax-clause-front
returns-in-Err-Syntax-clause-front c =
    begins_at SomeText c.args.text.now c.in-Err-Syntax.left (subst (Faulty SomeText c.args.text.now) c.in-Err-Syntax.field-0-is c.in-Err-Syntax.ensures.front)
