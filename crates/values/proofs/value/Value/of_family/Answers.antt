use Rattle.std.proofs.Common.{ap, ◌∙◌}
use Rattle.matching.specs.Forms.{norm}
use Rattle.values.proofs.Joined.{nothing}
use Rattle.values.proofs.value.Value.of_family.Goals as goal

pub joined-requires : goal.joined-requires
joined-requires c = λ e. c.in_ok-normal_form-in-Other.ensures ∙ ap (norm c.args.family) e ∙ nothing c.args.family
