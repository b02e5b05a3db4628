use Rattle.sorting.proofs.Complete.{all_there}
use Rattle.sorting.proofs.InTurn.{sorted_in_order}
use Rattle.sorting.proofs.laws.those_above_come_first.Goals as goal

pub returns-clause-all : goal.returns-clause-all
returns-clause-all c = all_there

pub returns-clause-order : goal.returns-clause-order
returns-clause-order c = sorted_in_order
