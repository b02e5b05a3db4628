use Rattle.std.proofs.Common.{◌≡◌, length}
use Rattle.base.specs.Answers.{each}
use Rattle.ldif.specs.Reading.{block, blocks}
use Rattle.base.proofs.Each.{with_front}
use Rattle.ldif.proofs.modify.mods_of.Given as goal

abbrev pub invariant-walk : goal.invariant-walk
invariant-walk l = with_front l.mods (each block (blocks l.rest)) ≡ each block (blocks l.fn.lines)

abbrev pub decreases-walk : goal.decreases-walk
decreases-walk l = length l.rest
