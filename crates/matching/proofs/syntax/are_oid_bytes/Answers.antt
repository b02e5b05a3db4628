use Rattle.std.proofs.Common.{not, ap, ◌∙◌}
use Rattle.matching.specs.Syntaxes.{is_oid_byte}
use Rattle.base.proofs.TestedEnds.{none_fails}
use Rattle.matching.proofs.syntax.are_oid_bytes.Goals as goal

pub returns : goal.returns
returns c = ap not c.any_byte.ensures ∙ none_fails is_oid_byte c.args.bytes.now
