use Rattle.sorted_loads.proofs.Parents.{none_refused}
use Rattle.sorted_loads.proofs.loading.parents_are_there_first.Goals as goal

pub returns : goal.returns
returns c = none_refused c.parents_come_first.ensures.parents
