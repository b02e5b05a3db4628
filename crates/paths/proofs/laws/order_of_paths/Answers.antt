use Rattle.paths.specs.PathLaws.{path_total}
use Rattle.paths.proofs.Orders.{path_exact, parent_first}
use Rattle.paths.proofs.laws.order_of_paths.Goals as goal

pub returns : goal.returns
returns c = record { total = path_total; exact = path_exact; parent_first = parent_first }
