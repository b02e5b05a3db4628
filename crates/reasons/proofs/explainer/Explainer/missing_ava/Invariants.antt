use Rattle.std.proofs.Common.{◌≡◌, drop}
use Rattle.entries.specs.Modifies.{has_rdn}
use Rattle.entries.specs.StoredEntries.{attributes_of}
use Rattle.reasons.proofs.explainer.Explainer.missing_ava.Given as goal

abbrev pub invariant-loop-index : goal.invariant-loop-index
invariant-loop-index l = has_rdn l.self.conf.now.types (drop l.index l.avas) (attributes_of l.attrs) ≡ has_rdn l.self.conf.now.types l.avas (attributes_of l.attrs)
