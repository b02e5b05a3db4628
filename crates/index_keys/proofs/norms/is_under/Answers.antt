use Rattle.std.specs.Bool.{one_answer}
use Rattle.schema.specs.Subtypes.{is_subtype}
use Rattle.index_keys.proofs.norms.is_under.Goals as goal

pub returns : goal.returns
returns c = one_answer c.is_subtype.result (is_subtype c.args.conf.now.types c.args.t c.args.above) c.is_subtype.ensures (c.subtypes_are_told.ensures c.args.conf.now c.args.t c.args.above c.rules_are_kept.ensures c.requires)
