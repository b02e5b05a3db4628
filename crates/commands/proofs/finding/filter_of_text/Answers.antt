use Rattle.std.proofs.Common.{◌≡◌, ℕ, List, Option, Some, refl, sym, ap, subst, ◌∙◌}
use Rattle.std.specs.Prelude.{◌↔◌, Result, Ok, Err, unwrap_or}
use Rattle.filter_text.specs.Depth.{IsShallow, IsDeepAt}
use Rattle.filter_text.specs.Faults.{IsOutOfMemory, BeginsAt}
use Rattle.filter_text.specs.Spells.{FilterContent, FilterText}
use Rattle.filter_text.specs.declared.filters.Filter.{Filter}
use Rattle.filter_text.specs.declared.filter_fault.FilterFault.{FilterFault}
use Rattle.filter_text.specs.declared.filter_fault.FilterFault.TheVariants.{At}
use Rattle.filter_text.specs.declared.filter_fault.FilterFaultKind.TheVariants.{Deep}
use Rattle.commands.specs.Asked.{any_entry, IsNoFilter, IsNoFilterFor}
use Rattle.commands.proofs.finding.filter_of_text.Goals as goal

abbrev failed : FilterFault → Result Filter FilterFault
failed fault = Err fault

module _ (text : Option (List ℕ)) (bytes : List ℕ) (is : bytes ≡ unwrap_or text any_entry) (found told : FilterFault) (same : found ≡ told) where
  no_filter : ((f : FilterContent) → FilterText f bytes → IsShallow bytes → ⊥) → IsNoFilter text
  no_filter none f spelled = none f (subst (FilterText f) (sym is) spelled.0) (subst IsShallow (sym is) spelled.1)

  abbrev fault_of : Result Filter FilterFault → FilterFault
  fault_of (Ok f) = told
  fault_of (Err e) = e

  deep_so : ((at : ℕ) → IsDeepAt bytes at ↔ (failed found ≡ failed (At at Deep))) → (at : ℕ) → IsDeepAt (unwrap_or text any_entry) at ↔ (told ≡ At at Deep)
  deep_so deep at =
      let on = deep at in
      (λ d. sym same ∙ ap fault_of (on.0 (subst (λ (b : List ℕ). IsDeepAt b at) (sym is) d)), λ e. subst (λ (b : List ℕ). IsDeepAt b at) is (on.1 (ap failed (same ∙ e))))

  told_so : ((f : FilterContent) → FilterText f bytes → IsShallow bytes → ⊥) → ((at : ℕ) → IsDeepAt bytes at ↔ (failed found ≡ failed (At at Deep))) → BeginsAt bytes found → IsNoFilterFor text told
  told_so none deep front = record { none = no_filter none; deep = deep_so deep; front = subst (BeginsAt (unwrap_or text any_entry)) same (subst (λ (b : List ℕ). BeginsAt b found) is front) }

pub returns-in-Err-At-clause-fault : goal.returns-in-Err-At-clause-fault
returns-in-Err-At-clause-fault c =
    told_so (Some c.args.text.now) c.args.text.now refl _ _ c.in-Err-At.field-0-is
    (λ f spelled shallow. subst IsOutOfMemory c.in-Err-At.field-0-is (c.in-Err-At.ensures.only f spelled shallow)) c.in-Err-At.ensures.deep c.in-Err-At.ensures.front
