use Rattle.candidates.proofs.held.both_or_either.Goals as goal

pub returns-then-both : goal.returns-then-both
returns-then-both g c = rw c.if-both.true c.meet_numbers.ensures

pub returns-else-both : goal.returns-else-both
returns-else-both g c = rw c.if-both.false c.join_numbers.ensures
