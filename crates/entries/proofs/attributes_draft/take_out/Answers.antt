use Rattle.std.proofs.Common.{◌∙◌, sym}
use Rattle.entries.proofs.SetValues.{values_taken, set_taken}
use Rattle.entries.proofs.attributes_draft.take_out.Goals as goal

pub returns-then-eq-clause-values : goal.returns-then-eq-clause-values
returns-then-eq-clause-values c = values_taken c.args.attrs.now.entries c.args.taken c.in-Some.last c.args.t c.in-Some.is (sym c.eq.ensures ∙ c.if-eq.true) c.requires

pub returns-then-eq-clause-place : goal.returns-then-eq-clause-place
returns-then-eq-clause-place c = λ vs. set_taken c.args.attrs.now.entries c.args.taken c.in-Some.last c.args.t vs c.in-Some.is (sym c.eq.ensures ∙ c.if-eq.true) c.requires
