use Rattle.std.proofs.Common.{sym, ◌∙◌}
use Rattle.schema.proofs.AvaValues.{nothing_from}
use Rattle.schema.proofs.conf.Conf.name_value.Goals as goal

pub joined-requires : goal.joined-requires
joined-requires c = nothing_from c.args.self.now.types c.args.raw.now c.in-Some.norm (sym c.in-Some.is ∙ c.in_ok-norm.ensures)
