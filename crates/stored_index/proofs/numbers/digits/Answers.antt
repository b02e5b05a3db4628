use Rattle.std.proofs.Common.{sym, ◌∙◌, arith}
use Rattle.stored_index.proofs.NumberCuts.{one_more, all_of_them}
use Rattle.stored_index.proofs.NumberLemmas.{grows}
use Rattle.stored_index.proofs.numbers.digits.Goals as goal

pub loop-at-preserved : goal.loop-at-preserved
loop-at-preserved c =
    let digit = sym c.is_ascii_digit.ensures.value ∙ c.if-is_ascii_digit.true in
    record {
      few = omega arith;
      fits = omega arith;
      digits = one_more c.args.text.now c.loop-at.at c.loop-at.number c.loop-at-test.true digit c.loop-at.invariant.digits;
      small = grows c.loop-at.number _ c.loop-at.at digit c.loop-at.invariant.small;
    }

pub returns-else-is_ascii_digit-clause-number : goal.returns-else-is_ascii_digit-clause-number
returns-else-is_ascii_digit-clause-number c = all_of_them c.args.text.now c.loop-at.at c.loop-at.number c.loop-at.invariant.digits

pub returns-else-at-lt10-clause-number : goal.returns-else-at-lt10-clause-number
returns-else-at-lt10-clause-number c = all_of_them c.args.text.now c.loop-at.at c.loop-at.number c.loop-at.invariant.digits

pub returns-after-loop-at-clause-number : goal.returns-after-loop-at-clause-number
returns-after-loop-at-clause-number c = all_of_them c.args.text.now c.loop-at.at c.loop-at.number c.loop-at.invariant.digits
