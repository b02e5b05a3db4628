use Rattle.sorting.specs.Sorted.{sorted_stanzas}
use Rattle.sorting.proofs.InTurn.{sorted_in_order}
use Rattle.sorting.proofs.Kept.{kept}
use Rattle.sorting.proofs.Whole.{as_it_is}
use Rattle.sorting.proofs.laws.stanzas_in_order_stay.Goals as goal

pub returns-clause-stay : goal.returns-clause-stay
returns-clause-stay c = kept

pub returns-clause-text : goal.returns-clause-text
returns-clause-text c = as_it_is

pub returns-clause-once : goal.returns-clause-once
returns-clause-once c = λ ps. kept (sorted_stanzas ps) (sorted_in_order ps)
