use Rattle.matching.proofs.ValidBytes.{valid_bytes}
use Rattle.matching.proofs.laws.valid_values_are_bytes.Goals as goal

pub returns : goal.returns
returns c = valid_bytes
