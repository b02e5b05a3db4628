use Rattle.std.proofs.Common.{◌≡◌, ◌++◌, drop, map}
use Rattle.differences.specs.EntryChanges.{deleting}
use Rattle.differences.specs.inner.LentAttributes.{all_lent}
use Rattle.differences.specs.inner.LentBlocks.{all_seen}
use Rattle.differences.proofs.blocks.push_deletes.Given as goal

abbrev pub invariant-loop-i : goal.invariant-loop-i
invariant-loop-i l = all_seen l.blocks.items ++ map deleting (drop l.i (all_lent l.attrs)) ≡ all_seen l.fn.blocks.items ++ map deleting (drop l.from (all_lent l.attrs))
