use Rattle.candidates.proofs.AskedKeys.{suffice}
use Rattle.candidates.proofs.laws.asked_keys_suffice.Goals as goal

pub returns : goal.returns
returns c = suffice
