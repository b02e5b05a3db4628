use Rattle.std.proofs.Common.{ℕ, List, Some, inr, refl, subst, ◌∙◌}
use Rattle.commands.specs.Asked.{IsNoFilterFor}
use Rattle.commands.specs.inner.Refusals.{FilterFails}
use Rattle.commands.proofs.listing.ListSearch.search_line.Goals as goal

pub returns-in-Err-Filter-clause-ends : goal.returns-in-Err-Filter-clause-ends
returns-in-Err-Filter-clause-ends g c = λ said serves w. inr (record {
  fault = c.in-Err-Filter.fault;
  is = subst (λ (b : List ℕ). IsNoFilterFor (Some b) c.in-Err-Filter.fault) (c.as_slice.ensures.value ∙ c.in_ok-text.ensures)
      (subst (FilterFails (Some c.as_slice.result.now)) c.in-Err-Filter.field-0-is c.in-Err-Filter.ensures.fault);
  reported = record { reported = c.report_fault.ensures.reported; stays = refl };
})
