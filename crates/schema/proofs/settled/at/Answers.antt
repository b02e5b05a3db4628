use Rattle.std.proofs.Common.{◌∙◌}
use Rattle.schema.specs.inner.Settled.{nothing}
use Rattle.schema.proofs.Lineages.{same_place}
use Rattle.schema.proofs.settled.at.Goals as goal

pub returns : goal.returns
returns c = c.index-settled-class.is ∙ same_place c.args.settled.now c.args.class c.index-settled-class.result nothing c.requires
