use Rattle.std.proofs.Common.{◌≡◌, true}
use Rattle.schema.specs.Slots.{IsSlot}
use Rattle.values.specs.Types.{is_known}
use Rattle.stored_index.proofs.OrderLaws.{all_weaker}
use Rattle.stored_index.proofs.WrittenLaws.{text_is_read}
use Rattle.stored_index.proofs.laws.written_texts_are_read.Goals as goal

pub returns : goal.returns
returns c conf entries stamp rows is few size bytes fit =
    text_is_read entries few stamp size bytes conf rows
    (record { found = λ t known. c.printed_names_name_their_types.ensures.names conf t is known; plain = λ t known. c.printed_names_name_their_types.ensures.texts conf t is known })
    (all_weaker (IsSlot conf.types) (λ s. is_known conf.types s.type_id ≡ true) (λ s slot. slot.known) conf.slots is.slots) fit
