use Rattle.std.proofs.Common.{◌∙◌}
use Rattle.index_text.specs.SlotKeys.{slot_key}
use Rattle.candidates.proofs.laws.indexes_reflect_entries.Goals as goal

pub returns : goal.returns
returns c = λ x n attrs same. record { exactly = λ t kind slot key is. same (slot_key slot key) ∙ c.keys_are_told.ensures x.conf attrs t kind slot key is }
