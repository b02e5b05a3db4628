use Rattle.std.proofs.Common.{◌≡◌, ◌≤◌, ◌++◌, drop, length}
use Rattle.differences.specs.EntryChanges.{blocks_between}
use Rattle.differences.specs.inner.LentAttributes.{all_lent}
use Rattle.differences.specs.inner.LentBlocks.{all_seen}
use Rattle.differences.proofs.blocks.push_all.Given as goal

abbrev pub invariant-loop-i : goal.invariant-loop-i
invariant-loop-i l = record {
  within : l.j ≤ length l.after;
  so_far : all_seen l.blocks.items ++ blocks_between l.conf.types (drop l.i (all_lent l.before)) (drop l.j (all_lent l.after))
      ≡ all_seen l.fn.blocks.items ++ blocks_between l.conf.types (all_lent l.before) (all_lent l.after);
}
