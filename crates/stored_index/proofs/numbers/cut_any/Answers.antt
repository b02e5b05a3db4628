use Rattle.std.proofs.Common.{sym, ◌∙◌}
use Rattle.stored_index.proofs.NumberCuts.{is_number, at_end, at_space}
use Rattle.stored_index.proofs.numbers.cut_any.Goals as goal

pub returns-in-None-clause-parts : goal.returns-in-None-clause-parts
returns-in-None-clause-parts c = at_end c.args.text.now c.digits-at.result.0 c.digits-at.result.1 c.in-None.ensures.lookup.3 c.digits-at.ensures.number

pub returns-in-None-clause-number : goal.returns-in-None-clause-number
returns-in-None-clause-number c = is_number _ c.digits-at.result.1 (sym c.has_number_form.ensures ∙ c.if-has_number_form.true) c.digits-at.ensures.number

pub returns-in-Some-eq32-clause-parts : goal.returns-in-Some-eq32-clause-parts
returns-in-Some-eq32-clause-parts c = at_space c.args.text.now c.digits-at.result.0 c.digits-at.result.1 c.in-Some-eq32.ensures.lookup.3.0 (sym (c.in-Some-eq32.ensures.lookup.3.1 0) ∙ c.in-Some-eq32.field-0-test) c.digits-at.ensures.number

pub returns-in-Some-eq32-clause-number : goal.returns-in-Some-eq32-clause-number
returns-in-Some-eq32-clause-number c = is_number _ c.digits-at.result.1 (sym c.has_number_form.ensures ∙ c.if-has_number_form.true) c.digits-at.ensures.number
