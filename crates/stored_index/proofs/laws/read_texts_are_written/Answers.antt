use Rattle.stored_index.proofs.WholeLaws.{text_writes}
use Rattle.stored_index.proofs.laws.read_texts_are_written.Goals as goal

pub returns-clause-text : goal.returns-clause-text
returns-clause-text c conf entries stamp text rows e = (text_writes conf entries stamp text rows e).written

pub returns-clause-rows : goal.returns-clause-rows
returns-clause-rows c conf entries stamp text rows e = (text_writes conf entries stamp text rows e).rows_fit
