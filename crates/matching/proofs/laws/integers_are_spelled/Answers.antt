use Rattle.matching.proofs.SpelledIntegers.{spelled_only, spelled_found, spelled_value}
use Rattle.matching.proofs.laws.integers_are_spelled.Goals as goal

pub returns : goal.returns
returns c = record { only = spelled_only; found = spelled_found; number = spelled_value }
