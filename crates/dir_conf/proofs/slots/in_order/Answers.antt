use Rattle.std.proofs.Common.{◌∙◌}
use Rattle.dir_conf.proofs.SlotsInOrder.{set_is}
use Rattle.dir_conf.proofs.slots.in_order.Goals as goal

pub returns : goal.returns
returns c = λ count known. c.from_vec.ensures ∙ c.in_ok-keys_of.ensures ∙ set_is count c.args.said.items c.in_ok-set.set known c.in_ok-set.ensures
