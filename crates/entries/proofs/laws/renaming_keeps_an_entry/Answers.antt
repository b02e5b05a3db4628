use Rattle.entries.proofs.StaysGood.{rename_keeps}
use Rattle.entries.proofs.laws.renaming_keeps_an_entry.Goals as goal

pub returns : goal.returns
returns c = rename_keeps
