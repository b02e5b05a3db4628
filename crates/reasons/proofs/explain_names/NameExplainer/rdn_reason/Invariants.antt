use Rattle.std.proofs.Common.{drop}
use Rattle.reasons.specs.NameFlaws.{HasNameFlaw, ava_checks}
use Rattle.reasons.specs.inner.Found.{Leaves}
use Rattle.reasons.proofs.explain_names.NameExplainer.rdn_reason.Given as goal

abbrev pub invariant-loop-ava : goal.invariant-loop-ava
invariant-loop-ava l = Leaves (HasNameFlaw l.self.conf.now l.self.text.now) (ava_checks l.rdn 0 l.avas) (ava_checks l.rdn l.ava (drop l.ava l.avas))
