use Rattle.std.proofs.Common.{List, ap, ◌∙◌}
use Rattle.schema.specs.Conf.{Conf}
use Rattle.schema.specs.declared.slots.Slot.{Slot}
use Rattle.index_text.specs.Postings.{slot_in}
use Rattle.candidates.specs.Asked.{asked_keys}
use Rattle.candidates.specs.Candidates.{prepared_of}
use Rattle.commands.proofs.index_file.read_source.Goals as goal

pub read_keys-requires-clause-asked : goal.read_keys-requires-clause-asked
read_keys-requires-clause-asked g c = c.as_slice.ensures.value ∙ c.in-Ok-asked_keys.ensures ∙ ap (λ (slots : List Slot). asked_keys (slot_in slots) (prepared_of c.args.filter.now)) (c.slots.ensures ∙ ap (λ (conf : Conf). conf.slots) c.conf.ensures)

pub returns-clause-read : goal.returns-clause-read
returns-clause-read g c = c.read_keys.ensures.read

pub returns-clause-err : goal.returns-clause-err
returns-clause-err g c = c.read_keys.ensures.err
