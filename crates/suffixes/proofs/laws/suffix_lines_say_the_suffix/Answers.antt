use Rattle.suffixes.proofs.SuffixChanged.{says_or_is_refused}
use Rattle.suffixes.proofs.laws.suffix_lines_say_the_suffix.Goals as goal

pub returns : goal.returns
returns c = says_or_is_refused
