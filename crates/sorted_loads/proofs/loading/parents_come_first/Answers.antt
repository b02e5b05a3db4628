use Rattle.sorted_loads.proofs.Parents.{for_parent, stay, parents}
use Rattle.sorted_loads.proofs.loading.parents_come_first.Goals as goal

pub returns-clause-refused : goal.returns-clause-refused
returns-clause-refused c = for_parent

pub returns-clause-kept : goal.returns-clause-kept
returns-clause-kept c = stay c.order_of_paths.ensures.total

pub returns-clause-parents : goal.returns-clause-parents
returns-clause-parents c = λ conf go_on d. parents c.order_of_paths.ensures.total conf go_on d c.records_are_in_order.ensures
