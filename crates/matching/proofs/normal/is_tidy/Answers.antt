use Rattle.std.proofs.Common.{◌∙◌, sym}
use Rattle.matching.proofs.Tidy.{one_word}
use Rattle.matching.proofs.normal.is_tidy.Goals as goal

pub returns-else-any_byte : goal.returns-else-any_byte
returns-else-any_byte c = λ _. one_word c.args.bytes.now (sym c.any_byte.ensures ∙ c.if-any_byte.false)
