use Rattle.std.proofs.Common.{arith, ◌^◌}
use Rattle.std.proofs.lemmas.Grind.{common_steps}
use Rattle.matching.proofs.Digits.{more, too_large, low}
use Rattle.matching.proofs.integer.magnitude_of.Goals as goal

pub overflow_sub-digit : goal.overflow_sub-digit
overflow_sub-digit c = omega (arith, low c.args.digits.now c.loop-b.b-index c.requires c.loop-b-test.true)

pub returns-in_err-checked_mul : goal.returns-in_err-checked_mul
returns-in_err-checked_mul c =
    rw c.from_residual.ensures (too_large c.args.digits.now c.loop-b.b-index c.loop-b.total (2 ^ 128) c.requires c.loop-b-test.true c.loop-b.invariant (omega (arith, c.in_err-checked_mul.ensures)))

pub returns-in_err-total : goal.returns-in_err-total
returns-in_err-total c =
    rw c.from_residual-in_err-total.ensures (too_large c.args.digits.now c.loop-b.b-index c.loop-b.total (2 ^ 128) c.requires c.loop-b-test.true c.loop-b.invariant (omega (arith, c.in_err-total.ensures, c.in_ok-checked_mul.ensures)))

pub loop-b-preserved : goal.loop-b-preserved
loop-b-preserved c = omega (arith, more c.args.digits.now c.loop-b.b-index c.requires c.loop-b-test.true, c.in_ok-total.ensures, c.in_ok-checked_mul.ensures, c.loop-b.invariant)

pub returns : goal.returns
returns c = grind (arith, common_steps)
