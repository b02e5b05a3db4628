use Rattle.std.proofs.Common.{◌∙◌}
use Rattle.matching.proofs.Texts.{text_test}
use Rattle.matching.proofs.syntax.are_utf8.Goals as goal

pub returns : goal.returns
returns c = c.is_ok.ensures.value ∙ text_test c.from_utf8.result c.args.bytes.now _ _ c.from_utf8.ensures.cases
