use Rattle.std.proofs.Common.{◌≡◌, drop}
use Rattle.entries.specs.inner.ClassChecks.{may_have_all}
use Rattle.entries.specs.StoredEntries.{attributes_of}
use Rattle.reasons.proofs.explainer.Explainer.not_allowed.Given as goal

abbrev pub invariant-loop-index : goal.invariant-loop-index
invariant-loop-index l = may_have_all l.self.conf.now l.named (attributes_of (drop l.index l.attrs)) ≡ may_have_all l.self.conf.now l.named (attributes_of l.attrs)
