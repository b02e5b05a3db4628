use Rattle.sorting.proofs.Reading.{records_in_order}
use Rattle.sorting.proofs.laws.records_are_in_order.Goals as goal

pub returns : goal.returns
returns c = records_in_order
