use Rattle.std.proofs.Common.{take, drop}
use Rattle.entries.specs.Entries.{values_of}
use Rattle.reasons.specs.Flaws.{HasFlaw, value_checks}
use Rattle.reasons.specs.inner.Found.{Leaves}
use Rattle.reasons.specs.inner.Changes.{KeepsValues}
use Rattle.reasons.proofs.explainer.Explainer.values_reason.Given as goal

abbrev pub invariant-loop-value : goal.invariant-loop-value
invariant-loop-value l = record {
  kept : KeepsValues l.self.conf.now.types l.t (values_of l.attrs.items l.t) (take l.value l.block.values) l.changed;
  left : Leaves (HasFlaw l.self.conf.now l.self.mode l.self.tree.now.entries l.self.asked.now) (value_checks l.index 0 l.block.values) (value_checks l.index l.value (drop l.value l.block.values));
}
