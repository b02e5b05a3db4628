use Rattle.schema.proofs.AvaValues.{valid_are_bytes}
use Rattle.schema.proofs.laws.valid_values_are_bytes.Goals as goal

pub returns : goal.returns
returns c = valid_are_bytes c.valid_values_are_bytes.ensures
