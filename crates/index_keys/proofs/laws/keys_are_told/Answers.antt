use Rattle.index_keys.proofs.Agreement.{told_at}
use Rattle.index_keys.proofs.laws.keys_are_told.Goals as goal

pub returns : goal.returns
returns c = told_at
