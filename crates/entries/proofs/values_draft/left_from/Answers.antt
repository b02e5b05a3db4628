use Rattle.std.proofs.Common.{arith, ap, length, ◌∙◌}
use Rattle.std.proofs.lemmas.Result.{IfOk-from_err}
use Rattle.entries.proofs.LeftFrom.{one_through}
use Rattle.entries.proofs.values_draft.left_from.Goals as goal

pub returns-in_err-put_left : goal.returns-in_err-put_left
returns-in_err-put_left c = IfOk-from_err _ _ c.from_residual.ensures.0

pub loop-value-preserved : goal.loop-value-preserved
loop-value-preserved c = record {
  can = c.loop-value.invariant.can;
  rest = one_through c.args.places.now.since c.loop-value.place c.loop-value.value-iterator c.next.new.self c.in-Some.value.now c.in-Some.ensures.steps c.loop-value.left c.put_left.new.left c.in_ok-put_left.ensures ∙ c.loop-value.invariant.rest;
  place = omega (arith, ap length c.in-Some.ensures.steps, c.loop-value.invariant.place);
}
