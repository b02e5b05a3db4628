use Rattle.filter.proofs.OrderTests.{order_told}
use Rattle.filter.proofs.laws.orders_are_told.Goals as goal

pub returns : goal.returns
returns c = λ family a b. order_told family a b
