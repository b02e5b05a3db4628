use Rattle.index_keys.proofs.WindowLaws.{stand, all}
use Rattle.index_keys.proofs.laws.windows_stand_in_texts.Goals as goal

pub returns-clause-stand : goal.returns-clause-stand
returns-clause-stand c = stand

pub returns-clause-all : goal.returns-clause-all
returns-clause-all c = all
