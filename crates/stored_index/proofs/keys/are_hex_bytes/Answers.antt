use Rattle.std.proofs.Common.{not, ap, ◌∙◌}
use Rattle.base.proofs.TestedEnds.{none_fails}
use Rattle.stored_index.specs.Words.{is_hex_byte}
use Rattle.stored_index.proofs.keys.are_hex_bytes.Goals as goal

pub returns : goal.returns
returns c = ap not c.any_byte.ensures ∙ none_fails is_hex_byte c.args.word.now
