use Rattle.index.proofs.StoredKeys.{left_at_first}
use Rattle.index.proofs.entry_keys.EntryKeys.by.Goals as goal

pub returns : goal.returns
returns c = left_at_first c.args.kind c.args.norms
