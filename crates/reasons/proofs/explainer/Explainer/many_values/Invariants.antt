use Rattle.std.proofs.Common.{◌≡◌, drop}
use Rattle.entries.specs.Entries.{are_single}
use Rattle.entries.specs.StoredEntries.{attributes_of}
use Rattle.reasons.proofs.explainer.Explainer.many_values.Given as goal

abbrev pub invariant-loop-index : goal.invariant-loop-index
invariant-loop-index l = are_single l.self.conf.now.types (attributes_of (drop l.index l.attrs)) ≡ are_single l.self.conf.now.types (attributes_of l.attrs)
