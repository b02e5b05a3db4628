use Rattle.std.proofs.Common.{not, ap, ◌∙◌}
use Rattle.matching.specs.Syntaxes.{is_ascii}
use Rattle.base.proofs.TestedEnds.{none_fails}
use Rattle.matching.proofs.syntax.are_ascii.Goals as goal

pub returns : goal.returns
returns c = ap not c.any_byte.ensures ∙ none_fails is_ascii c.args.bytes.now
