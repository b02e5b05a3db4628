use Rattle.std.specs.Bool.{one_answer}
use Rattle.filter.specs.Orders.{comes_before}
use Rattle.filter.proofs.OrderTests.{order_told}
use Rattle.filter.proofs.assertion.comes_before.Goals as goal

pub returns : goal.returns
returns c = one_answer c.is_less.result (comes_before c.args.family c.args.a.now c.args.b.now) c.is_less.ensures (order_told c.args.family c.args.a.now c.args.b.now)
