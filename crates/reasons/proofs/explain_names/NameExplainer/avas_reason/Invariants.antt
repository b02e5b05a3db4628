use Rattle.std.proofs.Common.{drop}
use Rattle.reasons.specs.NameFlaws.{HasNameFlaw, rdn_checks}
use Rattle.reasons.specs.inner.Found.{Leaves}
use Rattle.reasons.proofs.explain_names.NameExplainer.avas_reason.Given as goal

abbrev pub invariant-loop-index : goal.invariant-loop-index
invariant-loop-index l = Leaves (HasNameFlaw l.self.conf.now l.self.text.now) (rdn_checks 0 l.rdns) (rdn_checks l.index (drop l.index l.rdns))
