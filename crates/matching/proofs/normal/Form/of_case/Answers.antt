use Rattle.std.proofs.Common.{◌∙◌, sym}
use Rattle.matching.proofs.Tidy.{no_capital}
use Rattle.matching.proofs.normal.Form.of_case.Goals as goal

pub returns-else-any_byte : goal.returns-else-any_byte
returns-else-any_byte c = no_capital c.args.bytes.now (sym c.any_byte.ensures ∙ c.if-any_byte.false)
