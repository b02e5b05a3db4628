use Rattle.std.proofs.Common.{sym, ◌∙◌}
use Rattle.std.specs.FinMap as finite
use Rattle.differences.proofs.Hindered.{all_compared}
use Rattle.differences.proofs.differ.Differ.compares_all.Goals as goal

pub returns-in-None : goal.returns-in-None
returns-in-None c = λ root p.
    let self = c.args.self.now in
    all_compared self.conf.now.types self.comparison.now.base.now self.comparison.now.filter c.in-None.is (sym c.is_root.ensures ∙ root) p (finite.get self.before.now.entries p) (finite.get self.after.now.entries p)
