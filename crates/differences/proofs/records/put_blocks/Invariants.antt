use Rattle.std.proofs.Common.{◌≡◌, ◌++◌, drop}
use Rattle.differences.specs.inner.BlockTexts.{mods_text}
use Rattle.differences.specs.inner.LentBlocks.{lent_mods}
use Rattle.differences.proofs.records.put_blocks.Given as goal

abbrev pub invariant-loop-i : goal.invariant-loop-i
invariant-loop-i l = l.out.items ++ mods_text (drop l.i (lent_mods l.conf.types l.blocks)) ≡ l.fn.out.items ++ mods_text (lent_mods l.conf.types l.blocks)
