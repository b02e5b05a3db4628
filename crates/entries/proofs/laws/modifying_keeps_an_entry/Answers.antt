use Rattle.entries.proofs.StaysGood.{modify_keeps}
use Rattle.entries.proofs.laws.modifying_keeps_an_entry.Goals as goal

pub returns : goal.returns
returns c = modify_keeps
