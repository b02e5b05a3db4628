use Rattle.suffixes.proofs.SuffixReplaced.{changes_suffix}
use Rattle.suffixes.proofs.laws.suffix_lines_are_replaced.Goals as goal

pub returns : goal.returns
returns c = changes_suffix
