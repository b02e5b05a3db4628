use Rattle.schema.proofs.KeyOrder.{keys_rise, keys_have}
use Rattle.schema.proofs.laws.keys_are_sorted.Goals as goal

pub returns : goal.returns
returns c = record { same = keys_have; sorted = keys_rise }
