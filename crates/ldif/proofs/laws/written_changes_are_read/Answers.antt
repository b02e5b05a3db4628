use Rattle.ldif.proofs.WrittenChanges.{changes_back}
use Rattle.ldif.proofs.laws.written_changes_are_read.Goals as goal

pub returns : goal.returns
returns c = λ add. changes_back add c.commented_blocks_are_read.ensures
