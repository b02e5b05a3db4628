use Rattle.std.proofs.Common.{not, ap, ◌∙◌}
use Rattle.base.proofs.TestedEnds.{none_fails}
use Rattle.ldif.specs.Writing.{is_common_byte}
use Rattle.ldif.proofs.write.are_common.Goals as goal

pub returns : goal.returns
returns c = ap not c.any_byte.ensures ∙ none_fails is_common_byte c.args.value.now
