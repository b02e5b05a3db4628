use Rattle.std.proofs.Common.{◌∙◌, ap}
use Rattle.tree.specs.Plans.{number_of}
use Rattle.tree.proofs.PlanLemmas.{number_so}
use Rattle.tree.proofs.plans.Plan.number.Goals as goal

pub returns : goal.returns
returns c = c.number.ensures ∙ number_so c.self.inside.of.value c.self.inside.change c.self.invariant.numbered c.self.invariant.change.fit ∙ ap number_of c.self.view_is
