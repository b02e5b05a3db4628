use Rattle.std.proofs.Common.{sym, ◌∙◌, arith}
use Rattle.stored_index.proofs.NumberLemmas.{goes_on, stops, is_done, grows, within_ten}
use Rattle.stored_index.proofs.numbers.number_of.Goals as goal

pub returns-then-not-is_ascii_digit-clause-number : goal.returns-then-not-is_ascii_digit-clause-number
returns-then-not-is_ascii_digit-clause-number c =
    rw c.form.ensures
    (sym c.loop-digit.invariant.same ∙ stops c.loop-digit.number c.args.word.now c.loop-digit.digit-index c.loop-digit-test.true (sym c.is_ascii_digit.ensures.value ∙ c.if-not-is_ascii_digit.true))

pub loop-digit-preserved : goal.loop-digit-preserved
loop-digit-preserved c =
    let digit = sym c.is_ascii_digit.ensures.value ∙ c.if-not-is_ascii_digit.false in
    record {
      same = sym (goes_on c.loop-digit.number c.args.word.now c.loop-digit.digit-index c.loop-digit-test.true digit) ∙ c.loop-digit.invariant.same;
      small = grows c.loop-digit.number _ c.loop-digit.digit-index digit c.loop-digit.invariant.small;
    }

pub returns-clause-number : goal.returns-clause-number
returns-clause-number c = sym c.loop-digit.invariant.same ∙ is_done c.loop-digit.number c.args.word.now c.loop-digit.digit-index c.loop-digit-test.false

pub returns-clause-small : goal.returns-clause-small
returns-clause-small c = within_ten _ c.loop-digit.digit-index (omega arith) c.loop-digit.invariant.small
