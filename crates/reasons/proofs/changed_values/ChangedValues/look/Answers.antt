use Rattle.std.proofs.Common.{subst, sym, ◌∙◌}
use Rattle.reasons.specs.inner.Changes.{HasNormsOf}
use Rattle.reasons.proofs.NormsFound.{norms_pushed}
use Rattle.reasons.proofs.changed_values.ChangedValues.look.Goals as goal

pub returns-clause-seen : goal.returns-clause-seen
returns-clause-seen c =
    subst (HasNormsOf c.insert.new.self) (sym c.in_ok-push.ensures.ok)
    (norms_pushed c.args.self.now.seen c.insert.new.self c.args.value c.in_ok-norm.norm (c.in_ok-norm.ensures ∙ c.norm.ensures) c.in_ok-insert.ensures.updates.0 c.args.self.now.come c.requires)
