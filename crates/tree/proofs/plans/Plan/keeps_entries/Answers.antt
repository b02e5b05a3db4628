use Rattle.std.proofs.Common.{subst}
use Rattle.tree.specs.Plans.{KeepsEntries}
use Rattle.tree.proofs.Followed.{followed}
use Rattle.tree.proofs.plans.Plan.keeps_entries.Goals as goal

pub returns : goal.returns
returns c = subst KeepsEntries c.self.view_is (followed c.self.inside.of.value c.self.inside.change c.self.invariant.numbered c.self.invariant.free c.self.invariant.spare)
