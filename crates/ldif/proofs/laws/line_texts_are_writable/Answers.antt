use Rattle.ldif.proofs.WrittenLines.{writable}
use Rattle.ldif.proofs.laws.line_texts_are_writable.Goals as goal

pub returns : goal.returns
returns c = writable
