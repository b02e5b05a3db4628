use Rattle.sorting.proofs.Numbered.{one_more}
use Rattle.sorting.proofs.turns.last_numbers.Goals as goal

pub loop-number-preserved : goal.loop-number-preserved
loop-number-preserved c =
    one_more c.args.names.now c.loop-number.number _ c.loop-number.numbers c.put_number.new.numbers c.loop-number-test.true c.index-names-number.is c.loop-number.invariant c.in_ok-put_number.ensures
