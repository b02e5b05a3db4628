use Rattle.std.proofs.Common.{◌∙◌}
use Rattle.matching.proofs.Digits.{same_test}
use Rattle.matching.proofs.integer.are_digits.Goals as goal

pub returns : goal.returns
returns c = c.all_pass.ensures ∙ same_test c.args.text.now
