use Rattle.std.proofs.Common.{[], sym, ◌∙◌, arith}
use Rattle.differences.proofs.Places.{is_here, is_later}
use Rattle.differences.proofs.value_changes.place_from.Goals as goal

pub returns-then-eq-clause-place : goal.returns-then-eq-clause-place
returns-then-eq-clause-place c = is_here c.args.values.now c.args.value.now c.args.from c.loop-i.i (record { ref_ptr = (0, 0); now = [] }) c.loop-i-test.true c.loop-i.invariant.so_far (sym c.eq.ensures ∙ c.if-eq.true)

pub loop-i-preserved : goal.loop-i-preserved
loop-i-preserved c = record {
  low = let low = c.loop-i.invariant.low in omega arith;
  so_far = is_later c.args.values.now c.args.value.now c.args.from c.loop-i.i (record { ref_ptr = (0, 0); now = [] }) c.loop-i-test.true c.loop-i.invariant.so_far (sym c.eq.ensures ∙ c.if-eq.false);
}
