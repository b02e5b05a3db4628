use Rattle.std.proofs.Common.{◌≡◌, take, drop}
use Rattle.entries.specs.StoredEntries.{attributes_of, IsMade}
use Rattle.reasons.specs.BlockFlaws.{modified}
use Rattle.reasons.specs.Flaws.{HasFlaw, block_checks}
use Rattle.reasons.specs.inner.Found.{Leaves}
use Rattle.reasons.proofs.explainer.Explainer.blocks_reason.Given as goal

abbrev pub invariant-loop-index : goal.invariant-loop-index
invariant-loop-index l = record {
  made : IsMade l.self.conf.now.types l.attrs.items;
  are : attributes_of l.attrs.items ≡ modified l.self.conf.now.types (attributes_of l.fn.entry.attrs) (take l.index l.blocks);
  left : Leaves (HasFlaw l.self.conf.now l.self.mode l.self.tree.now.entries l.self.asked.now) (block_checks 0 l.blocks) (block_checks l.index (drop l.index l.blocks));
}
