use Rattle.std.proofs.Common.{subst}
use Rattle.tree.specs.Plans.{KeepsNumbers}
use Rattle.tree.proofs.Keeping.{keeps_numbers}
use Rattle.tree.proofs.plans.Plan.keeps_numbers.Goals as goal

pub returns : goal.returns
returns c = subst KeepsNumbers c.self.view_is (keeps_numbers c.self.inside.of.value c.self.inside.change c.self.invariant.spare)
