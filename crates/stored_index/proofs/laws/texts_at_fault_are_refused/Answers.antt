use Rattle.std.proofs.Common.{◌≡◌, true}
use Rattle.schema.specs.Slots.{IsSlot}
use Rattle.values.specs.Types.{is_known}
use Rattle.stored_index.proofs.FaultLaws.{text_stands}
use Rattle.stored_index.proofs.OrderLaws.{all_weaker}
use Rattle.stored_index.proofs.laws.texts_at_fault_are_refused.Goals as goal

pub returns : goal.returns
returns c conf entries stamp text kind is own fault =
    text_stands conf (record { found = λ t known. c.printed_names_name_their_types.ensures.names conf t is known; plain = λ t known. c.printed_names_name_their_types.ensures.texts conf t is known })
    (all_weaker (IsSlot conf.types) (λ s. is_known conf.types s.type_id ≡ true) (λ s slot. slot.known) conf.slots is.slots) is.slots_rise entries stamp own text kind fault
