use Rattle.std.proofs.Common.{◌≡◌, ◌++◌, drop}
use Rattle.std.specs.List.{flat_map}
use Rattle.differences.specs.Comments.{further_words}
use Rattle.differences.specs.inner.LentBlocks.{lent_mods}
use Rattle.differences.proofs.comments.put_words.Given as goal

abbrev pub invariant-loop-i : goal.invariant-loop-i
invariant-loop-i l = l.words.items ++ flat_map further_words (drop l.i (lent_mods l.conf.types l.blocks)) ≡ flat_map further_words (lent_mods l.conf.types l.blocks)
